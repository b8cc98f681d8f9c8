-- What follows a range that is fetched.
use Rattle.std.specs.Prelude.{◌≡◌, ℕ, List}
use Rattle.argo_base.specs.declared.errno.Errno.TheVariants.{Fault as efault}
use Rattle.line_phase.specs.declared.phase.Reader.{Reader}
use Rattle.line_phase.specs.declared.phase.Reader.TheVariants.{Show, Register, Send, Notify}
use Rattle.argo_model.specs.declared.reply.Reply.TheVariants.{Hex, Fault}
use Rattle.argo_model.specs.Programs.Asks.{Say, Rests, refusal}
use Rattle.line_phase.specs.Registering.{after_register_read, register_size, IsRegisterRead, most_after_register}
use Rattle.line_phase.specs.Notifying.{after_notify_read, notify_size, IsNotifyRead, most_after_notify}
use Rattle.line_phase.specs.Sending.{after_send_read, after_send_fault, send_size, IsSendRead, most_after_send}

-- what follows the bytes
abbrev pub after_read : Reader → List ℕ → Rests
after_read Show bytes os = Say (Hex bytes)
after_read (Register r) bytes os = after_register_read r bytes os
after_read (Send r) bytes os = after_send_read r bytes os
after_read (Notify r) bytes os = after_notify_read r bytes os

-- what follows a page that is not there
abbrev pub after_fault : Reader → Rests
after_fault Show os = Say Fault
after_fault (Register r) os = refusal efault
after_fault (Send r) os = after_send_fault r os
after_fault (Notify r) os = refusal efault

-- there are so many bytes; a load has any number of them
abbrev pub HasSize : ℕ → Reader → Type 0
HasSize n Show = Unit {0}
HasSize n (Register r) = n ≡ register_size r
HasSize n (Send r) = n ≡ send_size r
HasSize n (Notify r) = n ≡ notify_size r

-- the parts of the reader are as they must be
abbrev pub IsReader : Reader → Type 0
IsReader Show = Unit {0}
IsReader (Register r) = IsRegisterRead r
IsReader (Send r) = IsSendRead r
IsReader (Notify r) = IsNotifyRead r

-- how many actions follow at most
abbrev pub most_after : Reader → ℕ
most_after Show = 0
most_after (Register r) = most_after_register r
most_after (Send r) = most_after_send r
most_after (Notify r) = most_after_notify r
