use Rattle.argo_model.specs.declared.action.Outcome.TheVariants.{Fault}
use Rattle.line_phase.proofs.RangeLaws.{collect-refused, collect-gone}
use Rattle.line_phase.proofs.ranges.seen_moved.Goals as goal

pub returns-in-Fault-clause-unseen : goal.returns-in-Fault-clause-unseen
returns-in-Fault-clause-unseen c =
    rw (c.in-Err.is, c.in-Fault.is) (λ failed k os. collect-refused c.args.rest.now Fault c.args.got.now.items failed k os c.requires.some c.requires.sound (λ bs e. cc) (λ e. cc))

pub returns-in-Gone-clause-unseen : goal.returns-in-Gone-clause-unseen
returns-in-Gone-clause-unseen c =
    rw (c.in-Err.is, c.in-Gone.is) (λ failed k os. collect-gone c.args.rest.now c.args.got.now.items failed k os c.requires.some c.requires.sound)
