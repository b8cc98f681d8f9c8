-- Nothing differs at the places so far.
use Rattle.std.proofs.Common.{◌≡◌, None}
use Rattle.audit.specs.First.{first_below}
use Rattle.audit.specs.Heard.{texts_in}
use Rattle.audit.proofs.heard.heard_texts.Given as goal

abbrev pub invariant-loop-v : goal.invariant-loop-v
invariant-loop-v l = first_below (texts_in l.threads l.machine) l.v ≡ None
