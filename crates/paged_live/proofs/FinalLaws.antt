-- Laws of what a report shows of a domain's rings.
use Rattle.std.proofs.Common.{◌≡◌, ℕ, zero, suc, true, cond, [], ◌∷◌, map, Some, None, option_map, slice_get, refl, sym, ap, ◌∙◌}
use Rattle.std.specs.Map.{keys_of, lookup, remove_entry}
use Rattle.std.specs.BTreeMap.{is_at}
use Rattle.std.proofs.lemmas.Option.{same_Some, none-some}
use Rattle.std.proofs.lemmas.Map.Entries.{lookup_from_place}
use Rattle.std.proofs.lemmas.Map.Keys.{IsDistinct-from_sorted}
use Rattle.std.proofs.lemmas.Cmp.{eq_by_cmp_equiv}
use Rattle.argo_base.specs.declared.ring_key.RingKey.{RingKey}
use Rattle.argo_base.specs.Match.{key_cmp}
use Rattle.argo_model.specs.Rules.RingBytes.{slots}
use Rattle.argo_model.specs.Runs.Final.{final_ring, notice_line_of}
use Rattle.ring_core.specs.Held.{Held}
use Rattle.ring_table.specs.Rows.{Held as Row, held, held_at, value_at}
use Rattle.ring_table.specs.Edits.{without_row}
use Rattle.ring_table.proofs.BucketLaws.{key_total, key_itself}
use Rattle.paged_live.specs.Finals.{final_of, IsFirst}
use Rattle.paged_live.specs.Parts.{Rows, Parts, stood, store_of, ring_of, rings_of, seen, IsParts}
use Rattle.paged_live.proofs.StoreLaws.{own_bytes}

seen_final : (x : Parts) → IsParts x → (e : RingKey × Row Held) → held_at x.rows e.0 ≡ Some e.1 → final_of e ≡ final_ring (seen x).bytes (e.0, ring_of e.1)
seen_final x is e found =
    let own = own_bytes (store_of x) is.store e.0 (stood e.1) (ap (option_map stood) found) in
    ap (λ o. record {
      key = e.0;
      len = e.1.value.len;
      tx = e.1.value.tx;
      clean = e.1.value.clean;
      untaken = e.1.value.untaken;
      notices = map notice_line_of e.1.value.notices;
      slots = slots e.1.value.len o;
    }) (sym own)

pub finals_seen : (x : Parts) → IsParts x → map final_of x.rows ≡ map (final_ring (seen x).bytes) (seen x).rings
finals_seen x is = by x.rows (λ i e at. found i e at) where
  found : (i : ℕ) (e : RingKey × Row Held) → slice_get x.rows i ≡ Some e → held_at x.rows e.0 ≡ Some e.1
  found i e at = lookup_from_place (eq_by_cmp_equiv key_total) x.rows i e.0 e.1 (IsDistinct-from_sorted key_cmp (keys_of x.rows) is.named.rising) at

  by : (rows : Rows) → ((i : ℕ) (e : RingKey × Row Held) → slice_get rows i ≡ Some e → held_at x.rows e.0 ≡ Some e.1)
      → map final_of rows ≡ map (final_ring (seen x).bytes) (rings_of rows)
  by [] all = refl
  by (e ∷ es) all =
      ap (λ f. f ∷ map final_of es) (seen_final x is e (all zero e refl))
      ∙ ap (λ fs. final_ring (seen x).bytes (e.0, ring_of e.1) ∷ fs) (by es (λ i d at. all (suc i) d at))

-- ---- the first ring is taken out

pub none_first : (rows : Rows) → slice_get rows 0 ≡ None → rows ≡ []
none_first [] none = refl
none_first (e ∷ es) none = cc

pub took_first : (rows : Rows) (key : RingKey) (h : Row Held) (v : Held) → slice_get rows 0 ≡ Some (key, h) → value_at rows key ≡ Some v → IsFirst rows (without_row rows key) (key, v)
took_first [] key h v first value = cc
took_first (e ∷ es) key h v first value =
    let same : e ≡ (key, h) = same_Some e (key, h) first in
    let at : is_at (key_cmp key) e.0 ≡ true = ap (λ (d : RingKey × Row Held). is_at (key_cmp key) d.0) same ∙ key_itself key in
    let is_v : h.value ≡ v = same_Some h.value v (sym (ap (λ b. option_map (λ (r : Row Held). r.value) (cond b (Some e.1) (lookup (is_at (key_cmp key)) es))) at ∙ ap (λ (d : RingKey × Row Held). Some d.1.value) same) ∙ value) in
    record {
      serial = h.serial;
      is =
          ap (λ d. d ∷ es) (same ∙ ap (λ w. (key, held h.serial w)) is_v)
          ∙ ap (λ b. (key, held h.serial v) ∷ cond b es (e ∷ remove_entry (is_at (key_cmp key)) es)) (sym at);
    }

pub none_took : (rows : Rows) (key : RingKey) (h : Row Held) → slice_get rows 0 ≡ Some (key, h) → value_at rows key ≡ None → rows ≡ []
none_took [] key h first none = refl
none_took (e ∷ es) key h first none =
    let same : e ≡ (key, h) = same_Some e (key, h) first in
    let at : is_at (key_cmp key) e.0 ≡ true = ap (λ (d : RingKey × Row Held). is_at (key_cmp key) d.0) same ∙ key_itself key in
    absurd (none-some e.1.value (sym none ∙ ap (λ b. option_map (λ (r : Row Held). r.value) (cond b (Some e.1) (lookup (is_at (key_cmp key)) es))) at))
