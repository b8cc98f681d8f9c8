-- The rows of the tables, each computed.
use Rattle.std.proofs.Common.{refl}
use Rattle.reply_causes.specs.Examples.Controls.{ControlRows}
use Rattle.reply_causes.specs.Examples.Memories.{MemoryRows}
use Rattle.reply_causes.specs.Examples.Notifies.{NotifyRows}
use Rattle.reply_causes.specs.Examples.Recvs.{RecvRows}
use Rattle.reply_causes.specs.Examples.Registers.{RegisterRows, UnregisterRows}
use Rattle.reply_causes.specs.Examples.Sends.{SendRows}

pub sends : SendRows
sends = record { too_many_iovs = refl; wide_type = refl; absent_addresses = refl; pad = refl; foreign_source = refl; absent_list = refl; receiver_gone = refl; caller_off = refl; receiver_off = refl; no_ring = refl; iov_pad = refl; long_body = refl; long_sum = refl; too_big = refl; waits = refl; waits_again = refl; busy = refl; absent_body = refl; sent = refl; sent_as_wildcard = refl }

pub registrations : RegisterRows
registrations = record { unknown_flag = refl; absent_structure = refl; pad = refl; length = refl; count = refl; absent_list = refl; partner_gone = refl; caller_off = refl; partner_off = refl; exists = refl; no_place = refl; absent_page = refl; page_in_another = refl; registered = refl; registered_anew = refl }

pub endings : UnregisterRows
endings = record { second_argument = refl; absent_structure = refl; pad = refl; caller_off = refl; no_ring = refl; ended = refl }

pub notifies : NotifyRows
notifies = record { second_argument = refl; off_at_first_sweep = refl; off_at_second_sweep = refl; no_data = refl; no_data_after_a_sweep = refl; absent_head = refl; head_pad = refl; too_many = refl; no_entries = refl; absent_entry = refl; entry_pad = refl; off_at_question = refl; absent_answer = refl; answered = refl }

pub recvs : RecvRows
recvs = record { absent_rx = refl; absent_tx = refl; no_place = refl; past_the_end = refl; equal_words = refl; absent_header = refl; short_length = refl; long_length = refl; absent_body = refl; absent_when_moved = refl; received = refl }

pub memory : MemoryRows
memory = record { store_absent = refl; stored = refl; load_absent = refl; loaded = refl; signal = refl; no_signal = refl }

pub control : ControlRows
control = record { destroy_gone = refl; destroy_unknown = refl; destroyed = refl; reset_gone = refl; reset = refl; create_unknown = refl; create_alive = refl; created = refl; unknown_command = refl }
