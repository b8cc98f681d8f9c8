use Rattle.std.proofs.Common.{subst}
use Rattle.guest_lib.specs.declared.ask.Ask.{Ask}
use Rattle.guest_lib.specs.declared.own_ring.OwnRing.{OwnRing}
use Rattle.guest_lib.specs.declared.stage.Stage.{Stage}
use Rattle.guest_lib.specs.Receiving.{action_of}
use Rattle.guest_lib.specs.Stage.{IsStage, IsAction, read_body}
use Rattle.guest_lib.proofs.FetchLaws.{in_ok}
use Rattle.guest_lib.proofs.stage.Stage.ask.Goals as goal

pub returns-in-Body-clause-does : goal.returns-in-Body-clause-does
returns-in-Body-clause-does c =
    rw c.in-Body.is
    (in_ok c.ask.result
    (λ (a : Ask). (ring : OwnRing) → IsAction ring (read_body c.in-Body.body) (action_of a))
    (λ (a : Ask). IsAction c.args.ring (read_body c.in-Body.body) (action_of a))
    (λ a does. does c.args.ring) c.ask.ensures.does)

pub returns-in-Body-clause-keeps : goal.returns-in-Body-clause-keeps
returns-in-Body-clause-keeps c = λ ready is.
    let P : Stage → Type 0 = λ s. IsStage c.args.ring.len ready s in
    c.ask.ensures.keeps ready (subst P c.in-Body.is is)
