use Rattle.std.proofs.Common.{◌∷◌, sym, ap, ◌∙◌}
use Rattle.guest_lib.specs.Receiving.{ahead, ahead_at}
use Rattle.guest_lib.specs.Stage.{step_of}
use Rattle.guest_lib.proofs.recv.Recv.feed_by.Goals as goal

pub returns-clause-goes_on : goal.returns-clause-goes_on
returns-clause-goes_on c = λ end os.
    let r = c.self.inside.ring in
    ap (λ x. ahead end x (c.args.outcome.now ∷ os)) (sym c.self.view_is)
    ∙ ap (λ s. ahead_at end r.page r.len (step_of s) (c.args.outcome.now ∷ os)) (sym c.replace-stage.ensures.value)
    ∙ c.ended_by.ensures.rest end os
