use Rattle.std.proofs.Common.{◌≡◌, ◌+◌, ◌≤◌, length}
use Rattle.script_text.specs.Lines.{lines_of, said_from}
use Rattle.script_text.proofs.lines.next_line.Given as goal

abbrev pub invariant-loop-rest : goal.invariant-loop-rest
invariant-loop-rest l = record {
  said : said_from l.number (lines_of l.rest) ≡ said_from l.fn.number (lines_of l.text);
  count : l.number + length l.rest ≤ l.fn.number + length l.text;
  shorter : length l.rest ≤ length l.text;
}

abbrev pub decreases-loop-rest : goal.decreases-loop-rest
decreases-loop-rest l = length l.rest
