-- Laws of a closed world: its rows have their flags and keep their ids, and its passes keep their order and their totals.
use Rattle.std.proofs.Common.{◌≡◌, ℕ, zero, suc, ◌<◌, ◌==◌, List, [], ◌∷◌, length, map, slice_index_or, refl, sym, ap, ◌∙◌, subst, arith}
use Rattle.std.specs.List.{list_any}
use Rattle.std.specs.List.Sorted.{IsStrictlySortedBy}
use Rattle.std.specs.Ordering.{nat_cmp}
use Rattle.std.proofs.lemmas.List.{length-map}
use Rattle.std.proofs.lemmas.List.Elements.{All-nil, All-cons}
use Rattle.argo_model.specs.declared.closing.Totals.{Totals}
use Rattle.argo_board.specs.Board.{Tally, totals_of, StandInOrder as AreInOrder}
use Rattle.shared_steps.specs.Passes.{Carried, carried, StandInOrder}
use Rattle.argo_model.specs.declared.closed.ClosedDomain.{ClosedDomain}
use Rattle.argo_model.specs.declared.scripts.DomainLine.{DomainLine}
use Rattle.argo_board.specs.Journal.{is_raised}
use Rattle.argo_board.specs.declared.entry.Entry.{Entry}
use Rattle.shared_parts.specs.Closed.{AreRowsOf, Rise, ids_of}
use Rattle.shared_world.specs.Closed.{AreFlagsOf, flagged}

pub flags_shown : (entries : List Entry) (rows : List ClosedDomain) → AreFlagsOf entries (map (flagged entries) rows)
flags_shown entries [] = All-nil (λ x. x.flag ≡ is_raised x.id entries)
flags_shown entries (x ∷ rows) = All-cons (λ x. x.flag ≡ is_raised x.id entries) (flagged entries x) (map (flagged entries) rows) refl (flags_shown entries rows)

same_ids : (entries : List Entry) (rows : List ClosedDomain) → ids_of (map (flagged entries) rows) ≡ ids_of rows
same_ids entries [] = refl
same_ids entries (x ∷ rows) = ap (λ (ids : List ℕ). x.id ∷ ids) (same_ids entries rows)

pub rows_shown : (lines : List DomainLine) (entries : List Entry) (rows : List ClosedDomain) → AreRowsOf lines rows → AreRowsOf lines (map (flagged entries) rows)
rows_shown lines entries rows are d = ap (list_any (λ k. k == d)) (same_ids entries rows) ∙ are d

pub rise_shown : (entries : List Entry) (rows : List ClosedDomain) → Rise rows → Rise (map (flagged entries) rows)
rise_shown entries rows rise = subst (IsStrictlySortedBy nat_cmp) (sym (same_ids entries rows)) rise

-- ---- the passes

tally_at : (ps : List Carried) (k : ℕ) (d : Tally) → k < length ps → slice_index_or (map (λ p. p.tally) ps) k d ≡ (slice_index_or ps k (carried d [])).tally
tally_at [] k d below = absurd (omega (arith, below))
tally_at (p ∷ ps) zero d below = refl
tally_at (p ∷ ps) (suc k) d below = tally_at ps k d (omega (arith, below))

pub order_kept : (ps : List Carried) (ts : List Tally) → ts ≡ map (λ p. p.tally) ps → StandInOrder ps → AreInOrder ts
order_kept ps ts are order = subst AreInOrder (sym are) in_order where
  in_order : AreInOrder (map (λ p. p.tally) ps)
  in_order k d below =
      let counted = length-map ps (λ (p : Carried). p.tally) in
      let inside : k < length ps = omega (arith, below, counted) in
      ap (λ (t : Tally). t.vcpu) (tally_at ps k d inside) ∙ order k (carried d []) inside

totals_same : (ps : List Carried) → map totals_of (map (λ p. p.tally) ps) ≡ map (λ p. totals_of p.tally) ps
totals_same [] = refl
totals_same (p ∷ ps) = ap (λ (ts : List Totals). totals_of p.tally ∷ ts) (totals_same ps)

pub totals_kept : (ps : List Carried) (ts : List Tally) (totals : List Totals) → ts ≡ map (λ p. p.tally) ps → totals ≡ map totals_of ts → totals ≡ map (λ p. totals_of p.tally) ps
totals_kept ps ts totals are same = same ∙ ap (λ (xs : List Tally). map totals_of xs) are ∙ totals_same ps
