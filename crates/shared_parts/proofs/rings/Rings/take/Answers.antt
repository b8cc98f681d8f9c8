use Rattle.std.proofs.Common.{[], Some, is_some, sym, ap, ◌∙◌, subst}
use Rattle.shared_parts.specs.Rings.{Registry, AreTaken, has_ring, without_ring}
use Rattle.shared_parts.proofs.SeatLaws.{key_value, no_empty, shown, shown_without, taken-without}
use Rattle.shared_parts.proofs.rings.Rings.take.Goals as goal

pub invariant_of-self : goal.invariant_of-self
invariant_of-self c =
    subst AreTaken (sym c.remove.ensures.rest) (taken-without c.self.inside.table c.args.key c.self.invariant)

pub returns-in_default-clause-found : goal.returns-in_default-clause-found
returns-in_default-clause-found c =
    sym (ap is_some c.in_default.is)
    ∙ key_value c.self.inside.table c.args.key c.remove.result c.remove.ensures.value
    ∙ ap (λ (r : Registry). has_ring r c.args.key) c.self.view_is

pub returns-in_default-clause-left : goal.returns-in_default-clause-left
returns-in_default-clause-left c =
    ap (λ es. shown es c.self.inside.next_serial c.self.inside.homes.items) c.remove.ensures.rest
    ∙ shown_without c.self.inside.table c.args.key c.self.inside.next_serial c.self.inside.homes.items
    ∙ ap (λ (r : Registry). without_ring r c.args.key []) c.self.view_is

pub invariant_of-self-in_default-seat : goal.invariant_of-self-in_default-seat
invariant_of-self-in_default-seat c = absurd (no_empty c.self.inside.table c.args.key c.in-Some.seat c.self.invariant c.in-Some.ensures.value c.in_default-seat.is)

pub returns-in_default-seat-clause-found : goal.returns-in_default-seat-clause-found
returns-in_default-seat-clause-found c = absurd (no_empty c.self.inside.table c.args.key c.in-Some.seat c.self.invariant c.in-Some.ensures.value c.in_default-seat.is)

pub returns-in_default-seat-clause-left : goal.returns-in_default-seat-clause-left
returns-in_default-seat-clause-left c = absurd (no_empty c.self.inside.table c.args.key c.in-Some.seat c.self.invariant c.in-Some.ensures.value c.in_default-seat.is)

pub invariant_of-self-2 : goal.invariant_of-self-2
invariant_of-self-2 c =
    subst AreTaken (sym c.remove.ensures.rest) (taken-without c.self.inside.table c.args.key c.self.invariant)

pub returns-clause-found : goal.returns-clause-found
returns-clause-found c =
    key_value c.self.inside.table c.args.key (Some c.in-Some.seat) c.in-Some.ensures.value
    ∙ ap (λ (r : Registry). has_ring r c.args.key) c.self.view_is

pub returns-clause-left : goal.returns-clause-left
returns-clause-left c =
    ap (λ es. shown es c.self.inside.next_serial c.self.inside.homes.items) c.remove.ensures.rest
    ∙ shown_without c.self.inside.table c.args.key c.self.inside.next_serial c.self.inside.homes.items
    ∙ ap (λ (r : Registry). without_ring r c.args.key []) c.self.view_is
