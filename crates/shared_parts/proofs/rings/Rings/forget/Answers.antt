use Rattle.std.proofs.Common.{◌∙◌}
use Rattle.shared_parts.proofs.SeatLaws.{no_empty, taken-value, shown_value}
use Rattle.shared_parts.proofs.rings.Rings.forget.Goals as goal

pub invariant_of-self-in_default-seat : goal.invariant_of-self-in_default-seat
invariant_of-self-in_default-seat c = absurd (no_empty c.self.inside.table c.args.key c.in-Some.seat.now c.self.invariant c.in-Some.ensures.value c.in_default-seat.is)

pub returns-in_default-seat : goal.returns-in_default-seat
returns-in_default-seat c = absurd (no_empty c.self.inside.table c.args.key c.in-Some.seat.now c.self.invariant c.in-Some.ensures.value c.in_default-seat.is)

pub invariant_of-self-2 : goal.invariant_of-self-2
invariant_of-self-2 c = taken-value c.self.inside.table c.args.key _ c.self.invariant

pub returns : goal.returns
returns c = shown_value c.self.inside.table c.args.key _ c.self.inside.next_serial c.self.inside.homes.items ∙ c.self.view_is
