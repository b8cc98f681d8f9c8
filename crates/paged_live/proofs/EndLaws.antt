-- Laws of a domain of which one ring ends.
use Rattle.std.proofs.Common.{◌≡◌, ℕ, ◌<◌, Bool, true, false, true≢false, cond, List, [], ◌∷◌, ◌++◌, length, take, drop, slice_index, slice_get, Option, Some, None, option_map, ⊎_elim, refl, sym, ap, ◌∙◌, arith}
use Rattle.std.specs.Prelude.{is_some, not}
use Rattle.std.specs.Borrow.{Bor}
use Rattle.std.specs.Option.{option_copied}
use Rattle.std.specs.Map.{remove_entry}
use Rattle.std.specs.BTreeMap.{is_at}
use Rattle.std.proofs.Math.Seq.{take-append_seam}
use Rattle.std.proofs.lemmas.Option.{none-some, same_Some}
use Rattle.std.proofs.lemmas.Map.Made.{lookup-map_values}
use Rattle.argo_base.specs.declared.ring_key.RingKey.{RingKey}
use Rattle.argo_base.specs.Match.{key_cmp, at_key}
use Rattle.argo_model.specs.Rules.Destroy.{reset_live}
use Rattle.argo_base.specs.declared.errno.Errno.TheVariants.{NoEnt}
use Rattle.argo_model.specs.declared.action.Outcome.TheVariants.{Done}
use Rattle.argo_model.specs.Rules.Effects.{Change, after, refuse_if, leaving}
use Rattle.argo_model.specs.Rules.Register.{has_ring, own_ring, without_ring}
use Rattle.argo_model.specs.Rules.State.{Ring, Live}
use Rattle.guest_pages.specs.Pages.{with_row}
use Rattle.guest_pages.specs.Rows.{numbers_of}
use Rattle.ring_core.specs.Held.{Held, paged}
use Rattle.ring_table.specs.Rows.{Held as Row, held_at, row_of}
use Rattle.ring_table.specs.Edits.{without_row}
use Rattle.ring_table.proofs.BucketLaws.{key_total, key_itself}
use Rattle.ring_table.proofs.EntryLaws.{sorted-remove, remove-absent}
use Rattle.paged_live.specs.declared.home.Home.{Home}
use Rattle.live_domain.specs.Own.{take_away}
use Rattle.paged_live.specs.Homes.{cleared}
use Rattle.paged_live.specs.Parts.{Rows, Parts, stood, store_of, ring_of, rings_of, seen, IsParts}
use Rattle.paged_live.proofs.PageLaws.{Differ}
use Rattle.paged_live.proofs.StoreLaws.{same_key_or_not, own_page, pages_differ}
use Rattle.paged_live.proofs.MoveLaws.{Returned, returned_store, returned_memory}
use Rattle.paged_live.proofs.RowLaws.{remove_here, remove_other, map-remove_entry}
use Rattle.paged_live.proofs.PartsLaws.{Found, found_stood, ring_seen}
use Rattle.paged_live.proofs.HomeLaws.{AreWhole, length-cleared, cleared_at, cleared_other, length-with_row, with_row_other, given_at}

-- the domain without the ring of a key, whose pages have come back
abbrev pub ended : Parts → RingKey → Held → Parts
ended x key a = record x { private = with_row x.private a.row; homes = cleared (numbers_of a.row) x.homes; rows = without_row x.rows key }

module _ (x : Parts) (is : IsParts x) (key : RingKey) (a : Held) (f : Found x.rows key a) (whole : AreWhole a.row) where
  inside : (i : ℕ) → i < length (numbers_of a.row) → slice_index (numbers_of a.row) i < length x.private
  inside i below = (own_page (store_of x) is.store key (paged f.serial a) (found_stood x.rows key a f) i below).0

  differ : Differ (numbers_of a.row)
  differ = pages_differ (store_of x) is.store key (paged f.serial a) (found_stood x.rows key a f)

  pub end_step : Returned (store_of x) (store_of (ended x key a)) key (paged f.serial a)
  end_step =
      record {
        count = length-with_row x.private a.row;
        was = found_stood x.rows key a f;
        gone = ap (option_map stood) (remove_here x.rows key is.named.rising);
        others = λ q other. ap (option_map stood) (remove_other x.rows key q is.named.rising other);
        page = λ i below. given_at x.private a.row i whole differ below (inside i below);
        home = λ i below. cleared_at (numbers_of a.row) x.homes i below;
        other_page = λ n apart. with_row_other x.private a.row n apart;
        other_home = λ n apart. cleared_other (numbers_of a.row) x.homes n apart;
      }

  -- a ring that is left stood before
  left : (q : RingKey) (h : Row Held) → held_at (without_row x.rows key) q ≡ Some h → held_at x.rows q ≡ Some h
  left q h at =
      ⊎_elim
      (λ same. absurd (none-some h (sym (remove_here x.rows key is.named.rising) ∙ ap (held_at (without_row x.rows key)) (sym same) ∙ at)))
      (λ other. sym (remove_other x.rows key q is.named.rising other) ∙ at)
      (same_key_or_not q key)

  pub ended_parts : IsParts (ended x key a)
  ended_parts =
      record {
        homes = length-cleared (numbers_of a.row) x.homes ∙ is.homes ∙ sym (length-with_row x.private a.row);
        store = returned_store (store_of x) (store_of (ended x key a)) key (paged f.serial a) is.store end_step;
        named = record {
          rising = sorted-remove key_total (is_at (key_cmp key)) x.rows is.named.rising;
          key = λ q h at. is.named.key q h (left q h at);
          young = λ q h at. is.named.young q h (left q h at);
          first = is.named.first;
          some = λ q h at. is.named.some q h (left q h at);
          differ = λ k q g h at_k at_q same. is.named.differ k q g h (left k g at_k) (left q h at_q) same;
        };
      }

  pub ended_seen : seen (ended x key a) ≡ without_ring (seen x) key
  ended_seen =
      ap (λ bs. record (seen x) { bytes = bs; rings = rings_of (without_row x.rows key) })
      (returned_memory (store_of x) (store_of (ended x key a)) key (paged f.serial a) is.store end_step)
      ∙ ap (λ rs. record (seen x) { rings = rs }) (map-remove_entry ring_of (is_at (key_cmp key)) x.rows)

-- ---- what is seen of a ring that stands, or does not

pub copied_there : {T : Type 0} (o : Option (Bor T)) → is_some o ≡ is_some (option_copied o)
copied_there None = refl
copied_there (Some r) = refl

pub there_seen : (x : Parts) (key : RingKey) → is_some (option_map row_of (at_key x.rows key)) ≡ has_ring (seen x) key
there_seen x key = by (held_at x.rows key) ∙ ap is_some (sym (lookup-map_values ring_of (is_at (key_cmp key)) x.rows)) where
  by : (o : Option (Row Held)) → is_some (option_map row_of (option_map (λ (h : Row Held). (key, h)) o)) ≡ is_some (option_map ring_of o)
  by None = refl
  by (Some h) = refl

pub none_seen : (x : Parts) (key : RingKey) → held_at x.rows key ≡ None → own_ring (seen x) key ≡ None
none_seen x key none = lookup-map_values ring_of (is_at (key_cmp key)) x.rows ∙ ap (option_map ring_of) none

pub never : (x : Parts) (key : RingKey) → held_at x.rows key ≡ None → has_ring (seen x) key ≡ true → ⊥
never x key none stands = true≢false (sym stands ∙ ap is_some (none_seen x key none))

pub found_seen : (x : Parts) (key : RingKey) (a : Held) → Found x.rows key a → has_ring (seen x) key ≡ true
found_seen x key a f = ap is_some (ring_seen x.rows key a f)

-- without a ring that does not stand, all is as it was
pub without_none : (live : Live) (key : RingKey) → own_ring live key ≡ None → without_ring live key ≡ live
without_none live key none = ap (λ rs. record live { rings = rs }) (remove-absent key_total (is_at (key_cmp key)) live.rings none)

pub no_ring : (live : Live) (key : RingKey) → has_ring live key ≡ false → without_ring live key ≡ after live (take_away live key)
no_ring live key none = without_none live key (absent (own_ring live key) none) ∙ ap (λ b. after live (refuse_at b)) (sym none) where
  absent : (o : Option Ring) → is_some o ≡ false → o ≡ None
  absent None h = refl
  absent (Some r) h = cc

  refuse_at : Bool → Change Live
  refuse_at b = refuse_if (not b) NoEnt (leaving Done (without_ring live key))

-- the rows stay too
pub absent_rows : (rows : Rows) (key : RingKey) → held_at rows key ≡ None → without_row rows key ≡ rows
absent_rows rows key none = remove-absent key_total (is_at (key_cmp key)) rows none

-- ---- a list that is written back

pub written_back : {X : Type 0} (n : ℕ) (ws xs : List X) → length ws ≡ n → take n (ws ++ drop (length ws) xs) ≡ ws
written_back n ws xs e = ap (λ k. take k (ws ++ drop (length ws) xs)) (sym e) ∙ take-append_seam ws (drop (length ws) xs)

-- the parts after a ring's end, each as a call leaves it
pub ended_is : (x : Parts) (key : RingKey) (a : Held) (row : List (ℕ × List ℕ)) (private : List (Option (List ℕ))) (homes : List (Option Home)) (rows : Rows)
    → row ≡ a.row → private ≡ with_row x.private row → homes ≡ cleared (numbers_of row) x.homes → rows ≡ without_row x.rows key
    → record { private = private; homes = homes; flag = x.flag; next_serial = x.next_serial; rows = rows } ≡ ended x key a
ended_is x key a row private homes rows r p h s =
    ap (λ ps. record x { private = ps; homes = homes; rows = rows }) (p ∙ ap (with_row x.private) r)
    ∙ ap (λ hs. record x { private = with_row x.private a.row; homes = hs; rows = rows }) (h ∙ ap (λ r. cleared (numbers_of r) x.homes) r)
    ∙ ap (λ rs. record x { private = with_row x.private a.row; homes = cleared (numbers_of a.row) x.homes; rows = rs }) s

-- ---- all rings end, one after another

pub less_first : (live : Live) (key : RingKey) → option_map (λ e. e.0) (slice_get live.rings 0) ≡ Some key → length (without_ring live key).rings < length live.rings
less_first live key first = by live.rings first where
  by : (rs : List (RingKey × Ring)) → option_map (λ (e : RingKey × Ring). e.0) (slice_get rs 0) ≡ Some key → length (remove_entry (is_at (key_cmp key)) rs) < length rs
  by [] h = cc
  by (e ∷ es) h =
      let at : is_at (key_cmp key) e.0 ≡ true = ap (is_at (key_cmp key)) (same_Some e.0 key h) ∙ key_itself key in
      let same : length (remove_entry (is_at (key_cmp key)) (e ∷ es)) ≡ length es = ap (λ b. length (cond b es (e ∷ remove_entry (is_at (key_cmp key)) es))) at in
      omega (arith, same)

pub all_ended : (live : Live) → live.flag ≡ false → option_map (λ e. e.0) (slice_get live.rings 0) ≡ None → live ≡ reset_live live
all_ended live flag none = ap (λ f. record live { flag = f }) flag ∙ ap (λ rs. record live { flag = false; rings = rs }) (by live.rings none) where
  by : (rs : List (RingKey × Ring)) → option_map (λ (e : RingKey × Ring). e.0) (slice_get rs 0) ≡ None → rs ≡ []
  by [] h = refl
  by (e ∷ es) h = cc
