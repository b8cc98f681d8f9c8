use Rattle.std.proofs.Common.{Some, None, is_some, ap, ◌∙◌}
use Rattle.shared_parts.specs.Rings.{Registry, has_ring}
use Rattle.shared_parts.proofs.SeatLaws.{key_row, key_taken}
use Rattle.shared_parts.proofs.rings.Rings.gate.Goals as goal

pub returns-in_err-row : goal.returns-in_err-row
returns-in_err-row c =
    ap is_some c.from_residual.ensures
    ∙ key_row c.self.inside.table c.args.key None c.in_err-row.ensures.value
    ∙ ap (λ (r : Registry). has_ring r c.args.key) c.self.view_is

pub returns : goal.returns
returns c =
    c.as_ref.ensures.variant
    ∙ key_taken c.self.inside.table c.args.key c.in_ok-row.row.now c.self.invariant c.in_ok-row.ensures.value
    ∙ key_row c.self.inside.table c.args.key (Some c.in_ok-row.row.now) c.in_ok-row.ensures.value
    ∙ ap (λ (r : Registry). has_ring r c.args.key) c.self.view_is
