use Rattle.std.proofs.Common.{[], sym, ap, subst, ◌∙◌}
use Rattle.argo_model.specs.Programs.Asks.{Next, CanFollow}
use Rattle.argo_model.specs.Programs.Recv.{say_found}
use Rattle.guest_lib.specs.Receiving.{ahead, ahead_at}
use Rattle.guest_lib.proofs.recv.Recv.ask.Goals as goal

pub invariant_of-self : goal.invariant_of-self
invariant_of-self c = (c.self.invariant.0, c.ask.ensures.keeps c.self.inside.ready c.self.invariant.1)

pub returns-clause-does : goal.returns-clause-does
returns-clause-does c = λ end. ap (λ r. ahead end r []) (sym c.self.view_is) ∙ c.in_ok-ask.ensures.does end

pub returns-clause-feeds : goal.returns-clause-feeds
returns-clause-feeds c = λ o can.
    let P : Next → Type 0 = λ next. CanFollow next o in
    let r = c.self.inside.ring in
    let does = ap (λ s. ahead_at say_found r.page r.len s []) c.ask.ensures.alike ∙ c.in_ok-ask.ensures.does say_found in
    subst P (sym does) can
