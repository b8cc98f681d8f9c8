use Rattle.std.proofs.Common.{Some, is_some, sym, ap, ◌∙◌}
use Rattle.std.specs.Option.{option_copied_mut}
use Rattle.shared_parts.specs.Rings.{Registry, has_ring}
use Rattle.shared_parts.proofs.SeatLaws.{no_empty, key_value, taken-value, shown_value}
use Rattle.shared_parts.proofs.rings.Rings.stands_so.Goals as goal

pub returns-in_default-clause-found : goal.returns-in_default-clause-found
returns-in_default-clause-found c =
    sym (ap is_some (ap option_copied_mut c.in_default.is))
    ∙ key_value c.self.inside.table c.args.key (option_copied_mut c.find_exact_mut.result) c.find_exact_mut.ensures.value
    ∙ ap (λ (r : Registry). has_ring r c.args.key) c.self.view_is

pub invariant_of-self-in_default-seat : goal.invariant_of-self-in_default-seat
invariant_of-self-in_default-seat c = absurd (no_empty c.self.inside.table c.args.key c.in-Some.seat.now c.self.invariant c.in-Some.ensures.value c.in_default-seat.is)

pub returns-in_default-seat-clause-found : goal.returns-in_default-seat-clause-found
returns-in_default-seat-clause-found c = absurd (no_empty c.self.inside.table c.args.key c.in-Some.seat.now c.self.invariant c.in-Some.ensures.value c.in_default-seat.is)

pub returns-in_default-seat-clause-same : goal.returns-in_default-seat-clause-same
returns-in_default-seat-clause-same c = absurd (no_empty c.self.inside.table c.args.key c.in-Some.seat.now c.self.invariant c.in-Some.ensures.value c.in_default-seat.is)

pub invariant_of-self-2 : goal.invariant_of-self-2
invariant_of-self-2 c = taken-value c.self.inside.table c.args.key _ c.self.invariant

pub returns-clause-found : goal.returns-clause-found
returns-clause-found c =
    key_value c.self.inside.table c.args.key (Some c.in-Some.seat.now) c.in-Some.ensures.value
    ∙ ap (λ (r : Registry). has_ring r c.args.key) c.self.view_is

pub returns-clause-same : goal.returns-clause-same
returns-clause-same c = shown_value c.self.inside.table c.args.key _ c.self.inside.next_serial c.self.inside.homes.items ∙ c.self.view_is
