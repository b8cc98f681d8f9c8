use Rattle.std.proofs.Common.{◌≡◌, ◌+◌, ◌^◌, ◌<◌, true, length}
use Rattle.argo_model.specs.Runs.Script.{is_lawful}
use Rattle.script_text.specs.Lines.{lines_of, said_from}
use Rattle.script_text.specs.Scripts.{read_on}
use Rattle.script_text.proofs.read.read_on.Given as goal

abbrev pub invariant-loop-line : goal.invariant-loop-line
invariant-loop-line l = record {
  read : read_on (said_from l.number (lines_of l.rest)) l.reader ≡ read_on (said_from l.fn.number (lines_of l.text)) l.fn.reader;
  lawful : is_lawful l.reader ≡ true;
  fits : l.number + length l.rest < 2 ^ 32;
}

abbrev pub decreases-loop-line : goal.decreases-loop-line
decreases-loop-line l = length l.rest
