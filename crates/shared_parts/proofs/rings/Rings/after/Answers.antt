use Rattle.std.proofs.Common.{IfNone, sym, subst, ◌∙◌}
use Rattle.std.specs.BTreeMap.{is_at}
use Rattle.std.proofs.lemmas.Bool.{false≢true}
use Rattle.argo_base.specs.Match.{key_cmp}
use Rattle.ring_table.specs.Rows.{held_of}
use Rattle.shared_parts.specs.Rings.{Registry, NoneAbove, IsNext}
use Rattle.shared_parts.proofs.SeatLaws.{taken_at, none_above, is_next}
use Rattle.shared_parts.proofs.rings.Rings.after.Goals as goal

pub returns-in_err-row-clause-none : goal.returns-in_err-row-clause-none
returns-in_err-row-clause-none c =
    subst (λ r. IfNone r (NoneAbove c.args.self.now c.args.serial)) (sym c.from_residual.ensures)
    (subst (λ (r : Registry). NoneAbove r c.args.serial) c.self.view_is
    (none_above c.self.inside.table c.args.serial c.self.inside.next_serial c.self.inside.homes.items c.in_err-row.ensures.none))

pub returns-in_err-gate-clause-none : goal.returns-in_err-gate-clause-none
returns-in_err-gate-clause-none c =
    absurd (false≢true (c.in_err-gate.ensures.variant ∙ taken_at (is_at (key_cmp c.in_ok-row.row.now.key)) c.self.inside.table (held_of c.in_ok-row.row.now) c.self.invariant c.in_ok-row.ensures.some.stands))

pub returns-clause-some : goal.returns-clause-some
returns-clause-some c =
    subst (λ (r : Registry). IsNext r c.args.serial c.in_ok-row.row.now.serial) c.self.view_is
    (is_next c.self.inside.table c.args.serial c.self.inside.next_serial c.self.inside.homes.items c.in_ok-row.row.now c.in_ok-row.ensures.some)
