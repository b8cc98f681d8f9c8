use Rattle.std.proofs.Common.{Some, None, is_some, ap, ◌∙◌}
use Rattle.shared_parts.specs.Rings.{Registry, has_match}
use Rattle.shared_parts.proofs.SeatLaws.{match_row, match_taken}
use Rattle.shared_parts.proofs.rings.Rings.find.Goals as goal

pub returns-in_err-row : goal.returns-in_err-row
returns-in_err-row c =
    ap is_some c.from_residual.ensures
    ∙ match_row c.self.inside.table c.args.port c.args.sender None c.in_err-row.ensures
    ∙ ap (λ (r : Registry). has_match r c.args.port c.args.sender) c.self.view_is

pub returns : goal.returns
returns c =
    c.as_ref.ensures.variant
    ∙ match_taken c.self.inside.table c.args.port c.args.sender c.in_ok-row.row.now c.self.invariant c.in_ok-row.ensures
    ∙ match_row c.self.inside.table c.args.port c.args.sender (Some c.in_ok-row.row.now) c.in_ok-row.ensures
    ∙ ap (λ (r : Registry). has_match r c.args.port c.args.sender) c.self.view_is
