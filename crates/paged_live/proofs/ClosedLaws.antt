-- Laws of a domain's rings as they stand.
use Rattle.std.proofs.Common.{◌≡◌, ℕ, zero, suc, [], ◌∷◌, map, slice_get, Some, option_map, refl, ap, ◌∙◌}
use Rattle.std.specs.List.{cons_option}
use Rattle.std.specs.Map.{keys_of}
use Rattle.std.specs.List.Sorted.{IsStrictlySortedBy}
use Rattle.std.proofs.lemmas.Map.Entries.{lookup_from_place}
use Rattle.std.proofs.lemmas.Map.Keys.{IsDistinct-from_sorted}
use Rattle.std.proofs.lemmas.Cmp.{eq_by_cmp_equiv}
use Rattle.argo_base.specs.declared.ring_key.RingKey.{RingKey}
use Rattle.argo_base.specs.Match.{key_cmp}
use Rattle.argo_model.specs.Runs.Closed.{closed_ring}
use Rattle.ring_core.specs.Held.{Held}
use Rattle.ring_table.specs.Listing.{serials_of}
use Rattle.ring_table.specs.Rows.{Held as Row, held_at}
use Rattle.ring_table.proofs.BucketLaws.{key_total}
use Rattle.paged_live.specs.Closed.{closed_of, closed_all}
use Rattle.paged_live.specs.Parts.{Rows, rings_of}

pub closed_seen : (rows : Rows) → map closed_of rows ≡ map closed_ring (rings_of rows)
closed_seen [] = refl
closed_seen (e ∷ es) = ap (λ cs. closed_of e ∷ cs) (closed_seen es)

-- the keys of the table give its rows
pub closed_by_keys : (rows : Rows) → IsStrictlySortedBy key_cmp (keys_of rows) → closed_all rows (serials_of rows) ≡ map closed_of rows
closed_by_keys rows rising =
    by rows (λ i e at. lookup_from_place (eq_by_cmp_equiv key_total) rows i e.0 e.1 (IsDistinct-from_sorted key_cmp (keys_of rows) rising) at) where
      by : (es : Rows) → ((i : ℕ) (e : RingKey × Row Held) → slice_get es i ≡ Some e → held_at rows e.0 ≡ Some e.1) → closed_all rows (serials_of es) ≡ map closed_of es
      by [] all = refl
      by (e ∷ es) all =
          ap (λ o. cons_option (option_map (λ (h : Row Held). closed_of (e.0, h)) o) (closed_all rows (serials_of es))) (all zero e refl)
          ∙ ap (λ cs. closed_of e ∷ cs) (by es (λ i d at. all (suc i) d at))
