use Rattle.std.proofs.Common.{sym, subst}
use Rattle.argo_model.specs.declared.action.Outcome.TheVariants.{Bytes}
use Rattle.guest_lib.specs.declared.stage.Stage.{Stage}
use Rattle.guest_lib.specs.Stage.{step_of, CanHear}
use Rattle.guest_lib.proofs.FetchLaws.{can_fetch}
use Rattle.guest_lib.proofs.stage.Stage.hear.Goals as goal

pub hear-requires-clause-can : goal.hear-requires-clause-can
hear-requires-clause-can c = λ p first.
    let P : Stage → Type 0 = λ s. CanHear c.args.ring (step_of s) (Bytes c.args.bytes.now) in
    can_fetch c.in-Body.body.slots p c.in-Body.body.got.items _ _ (Bytes c.args.bytes.now) (sym first) (subst P c.in-Body.is c.requires.can)

pub returns-then-hear : goal.returns-then-hear
returns-then-hear c =
    let follows = c.hear.ensures.more c.if-hear.true c.args.ring in
    rw c.in-Body.is (record { rest = follows.rest; ready = follows.ready; nearer = follows.nearer })

pub returns-else-hear : goal.returns-else-hear
returns-else-hear c =
    let follows = c.hear.ensures.last c.if-hear.false c.args.ring in
    rw (c.in-Body.is, c.word_stage.ensures) (record { rest = follows.rest; ready = follows.ready; nearer = follows.nearer })
