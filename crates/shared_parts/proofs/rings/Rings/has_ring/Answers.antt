use Rattle.std.proofs.Common.{sym, ap, ◌∙◌}
use Rattle.std.specs.Option.{option_copied}
use Rattle.shared_parts.specs.Rings.{Registry, has_ring}
use Rattle.shared_parts.proofs.SeatLaws.{copied_some, key_row}
use Rattle.shared_parts.proofs.rings.Rings.has_ring.Goals as goal

pub returns : goal.returns
returns c =
    c.is_some.ensures
    ∙ sym (copied_some c.find_exact.result)
    ∙ key_row c.self.inside.table c.args.key (option_copied c.find_exact.result) c.find_exact.ensures.value
    ∙ ap (λ (r : Registry). has_ring r c.args.key) c.self.view_is
