use Rattle.ring_space.proofs.CopyLaws.{is_written, is_read}
use Rattle.ring_space.proofs.copies.copies_are_byte_by_byte.Goals as goal

pub returns-clause-write : goal.returns-clause-write
returns-clause-write c = λ own bytes len at inside below short. is_written own len at bytes inside below short

pub returns-clause-read : goal.returns-clause-read
returns-clause-read c = λ own len at n inside below short. is_read own len at n inside below short
