-- How the machine keeps the steps of the replies: a number for each line that is done, in the same order.
use Rattle.std.specs.Prelude.{◌≡◌, ℕ, ◌==◌, if◌then◌else◌, List, [], ◌∷◌, ◌++◌, length, Option, Some, None}
use Rattle.argo_model.specs.declared.reply.Reply.{Reply}
use Rattle.argo_model.specs.declared.closing.DoneLine.{DoneLine}
use Rattle.argo_model.specs.declared.closed.HeardLine.{HeardLine}
use Rattle.argo_model.specs.Runs.Run.{Step}
use Rattle.argo_model.specs.Runs.Closed.{heard_of}

-- the number of a step, where a reply came with it
abbrev pub reply_steps : ℕ → Option Reply → List ℕ
reply_steps n None = []
reply_steps n (Some r) = n ∷ []

-- what a line that was done at the step n is to section v
abbrev pub heard_line_by : ℕ → DoneLine → ℕ → List HeardLine
heard_line_by v d n = if d.vcpu == v then record { reply = d.reply; step = n } ∷ [] else []

-- the replies of section v among lines with these steps
abbrev pub heard_among : List DoneLine → List ℕ → ℕ → List HeardLine
heard_among [] ns v = []
heard_among (d ∷ ds) [] v = []
heard_among (d ∷ ds) (n ∷ ns) v = heard_line_by v d n ++ heard_among ds ns v

-- the numbers that are kept of the lines are those of their steps
pub record KeepsSteps (done : List DoneLine) (ns : List ℕ) (steps : List Step) : Type 0 where
  pub as_many : length ns ≡ length done
  pub heard_is : (v : ℕ) → heard_among done ns v ≡ heard_of steps v
