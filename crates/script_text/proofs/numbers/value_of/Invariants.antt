use Rattle.script_text.proofs.Digits.{IsRead}
use Rattle.script_text.proofs.numbers.value_of.Given as goal

abbrev pub invariant-loop-byte : goal.invariant-loop-byte
invariant-loop-byte l = IsRead l.base l.value l.byte-index l.digits
