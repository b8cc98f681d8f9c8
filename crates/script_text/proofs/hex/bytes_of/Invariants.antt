use Rattle.std.proofs.Common.{◌≡◌, ◌++◌, true, length}
use Rattle.std.specs.List.{list_all}
use Rattle.script_text.specs.Numbers.{is_hex_digit, bytes_of}
use Rattle.script_text.proofs.hex.bytes_of.Given as goal

abbrev pub invariant-loop-rest : goal.invariant-loop-rest
invariant-loop-rest l = record {
  all : l.bytes ++ bytes_of l.rest ≡ bytes_of l.word;
  digits : list_all is_hex_digit l.rest ≡ true;
}

abbrev pub decreases-loop-rest : goal.decreases-loop-rest
decreases-loop-rest l = length l.rest
