use Rattle.std.proofs.Common.{[], sym, ap, ◌∙◌}
use Rattle.argo_model.specs.Programs.Asks.{Do}
use Rattle.guest_lib.specs.Receiving.{ahead}
use Rattle.guest_lib.proofs.recv.Recv.next.Goals as goal

pub invariant_of-self : goal.invariant_of-self
invariant_of-self c = (c.self.invariant.0, c.ask.ensures.keeps c.self.inside.ready c.self.invariant.1)

pub returns-clause-does : goal.returns-clause-does
returns-clause-does c = λ end.
    ap (λ r. ahead end r []) (sym c.self.view_is)
    ∙ c.in_ok-ask.ensures.does end
    ∙ ap Do (sym c.in_ok-action.ensures)
