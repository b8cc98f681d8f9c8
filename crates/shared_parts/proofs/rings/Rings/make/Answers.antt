use Rattle.std.proofs.Common.{Some, sym, ap, ◌∙◌, subst}
use Rattle.argo_base.specs.Match.{key_in}
use Rattle.guest_pages.specs.Rows.{numbers_of}
use Rattle.ring_table.specs.Edits.{with_value}
use Rattle.shared_parts.specs.Rings.{Registry, AreTaken, has_ring, with_ring}
use Rattle.shared_parts.proofs.SeatLaws.{absent_held, row_lost, taken-filled, shown_made}
use Rattle.shared_parts.proofs.rings.Rings.make.Goals as goal

pub insert-requires : goal.insert-requires
insert-requires c =
    absent_held c.self.inside.table c.key-key.result (ap (λ (r : Registry). has_ring r c.key-key.result) c.self.view_is ∙ sym c.has_ring.ensures ∙ c.if-has_ring.false)

pub invariant_of-self-in_default-find_exact_mut : goal.invariant_of-self-in_default-find_exact_mut
invariant_of-self-in_default-find_exact_mut c = absurd (row_lost c.self.inside.table c.insert.new.self c.key-key.result c.self.inside.next_serial c.in-Ok.ensures.ok c.in_default-find_exact_mut.ensures.value)

pub returns-in_default-find_exact_mut-clause-err : goal.returns-in_default-find_exact_mut-clause-err
returns-in_default-find_exact_mut-clause-err c = absurd (row_lost c.self.inside.table c.insert.new.self c.key-key.result c.self.inside.next_serial c.in-Ok.ensures.ok c.in_default-find_exact_mut.ensures.value)

pub invariant_of-self-2 : goal.invariant_of-self-2
invariant_of-self-2 c =
    subst (λ t. AreTaken (with_value t c.key-key.result (Some c.new-2.result))) (sym c.in-Ok.ensures.ok)
    (taken-filled c.self.inside.table c.key-key.result c.self.inside.next_serial c.new-2.result c.self.invariant)

pub returns-clause-ok : goal.returns-clause-ok
returns-clause-ok c =
    shown_made c.self.inside.table c.insert.new.self c.key-key.result (key_in c.args.id) c.self.inside.next_serial c.saturating_add-self-inside.result
    (Some c.new-2.result) c.self.inside.homes.items c.settle_row.new.homes.items (numbers_of c.args.row)
    c.in-Ok.ensures.ok c.saturating_add-self-inside.ensures
    c.settle_row.ensures c.key-key.ensures
    ∙ ap (λ (r : Registry). with_ring r (key_in c.args.id) (numbers_of c.args.row)) c.self.view_is
