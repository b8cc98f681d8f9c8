use Rattle.std.proofs.Common.{refl}
use Rattle.line_phase.proofs.phase.Question.go.Goals as goal

pub returns-in-Deliver-clause-ok : goal.returns-in-Deliver-clause-ok
returns-in-Deliver-clause-ok g c =
    rw c.in-Deliver.is (
      c.in_ok-outcome.outcome,
      record { action = _; does = refl; acts = c.in_ok-outcome.ensures.acts; counts_are = c.in_ok-outcome.ensures.counts },
      c.sent.ensures c.in-Deliver.address c.in-Deliver.load,
    )
