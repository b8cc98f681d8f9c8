-- Nothing differs at the places so far.
use Rattle.std.proofs.Common.{◌≡◌, None}
use Rattle.audit.specs.First.{first_below}
use Rattle.audit.specs.Heard.{texts_at}
use Rattle.audit.proofs.heard.lines_texts.Given as goal

abbrev pub invariant-loop-at : goal.invariant-loop-at
invariant-loop-at l = first_below (texts_at l.threads l.machine) l.at ≡ None
