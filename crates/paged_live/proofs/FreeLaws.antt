-- Laws of the pages that a ring may stand on: those that can be lent.
use Rattle.std.proofs.Common.{◌≡◌, ◌≢◌, ℕ, zero, suc, ◌*◌, ◌<◌, ◌≤◌, Bool, true, false, cond, ◌&&◌, ◌||◌, nat_lt, List, [], ◌∷◌, length, slice_index, slice_get, Option, Some, None, option_map, unwrap_or, IsTrue, ⊎_elim, refl, sym, ap, ◌∙◌, subst, arith}
use Rattle.std.specs.Prelude.{not, is_some}
use Rattle.std.specs.List.{list_all, list_any}
use Rattle.std.specs.Map.{keys_of, remove_entry}
use Rattle.std.specs.BTreeMap.{is_at}
use Rattle.std.proofs.lemmas.Bool.{cases_lt}
use Rattle.std.proofs.lemmas.Bool.Decides.{nat_tests}
use Rattle.std.proofs.lemmas.List.{length-map, get_or-map}
use Rattle.std.proofs.lemmas.Option.{same_Some, none-some}
use Rattle.std.proofs.lemmas.Map.Entries.{lookup_from_place}
use Rattle.std.proofs.lemmas.Map.Keys.{IsDistinct-from_sorted}
use Rattle.std.proofs.lemmas.Cmp.{eq_by_cmp_equiv}
use Rattle.argo_base.specs.declared.ring_key.RingKey.{RingKey}
use Rattle.argo_base.specs.Match.{key_cmp}
use Rattle.argo_model.specs.Rules.State.{Ring, Live, has_page}
use Rattle.argo_model.specs.Rules.Register.{is_free_for, are_free_for, without_ring}
use Rattle.argo_model.specs.Rules.Register as rules
use Rattle.argo_model.specs.Rules.RingBytes.{PagedRing, ring_bytes}
use Rattle.argo_base.specs.Numbers as numbers
use Rattle.guest_pages.specs.Pages.{page_at, can_lend, row_of}
use Rattle.guest_pages.specs.Rows.{numbers_of, row_bytes, page_in}
use Rattle.guest_pages.proofs.FlatLaws.{length-row_bytes}
use Rattle.ring_core.specs.Held.{Held}
use Rattle.ring_table.specs.Rows.{Held as Row, held_at}
use Rattle.ring_table.proofs.BucketLaws.{key_total}
use Rattle.paged_live.specs.Store.{Lies}
use Rattle.paged_live.specs.Parts.{Parts, stood, store_of, ring_of, rings_of, seen, IsParts}
use Rattle.paged_live.proofs.StoreLaws.{Alone, Lent, alone_or_lent, not_own}
use Rattle.paged_live.proofs.MoveLaws.{Apart, free_bytes}
use Rattle.paged_live.proofs.RowLaws.{at_other}
use Rattle.paged_live.proofs.PutLaws.{Shown, shown_at, rings_rising, ring_at}
use Rattle.paged_live.proofs.SizeLaws.{page_is_there}
use Rattle.paged_live.proofs.HomeLaws.{AreWhole, row_piece}
use Rattle.paged_live.proofs.JoinLaws.{lends_alone, number_at, number_there}

abbrev Entry : Type 0
Entry = RingKey × Ring

-- ---- tests of all, and of some

all_same : {A : Type 0} (f g : A → Bool) → ((x : A) → f x ≡ g x) → (xs : List A) → list_all f xs ≡ list_all g xs
all_same f g same [] = refl
all_same f g same (x ∷ xs) = ap (λ b. b && list_all f xs) (same x) ∙ ap (λ b. g x && b) (all_same f g same xs)

none_any : {A : Type 0} (p : A → Bool) (xs : List A) → ((i : ℕ) (x : A) → slice_get xs i ≡ Some x → p x ≡ false) → list_any p xs ≡ false
none_any p [] none = refl
none_any p (x ∷ xs) none = ap (λ b. b || list_any p xs) (none 0 x refl) ∙ none_any p xs (λ i y at. none (suc i) y at)

one_any : {A : Type 0} (p : A → Bool) (xs : List A) (i : ℕ) (x : A) → slice_get xs i ≡ Some x → p x ≡ true → list_any p xs ≡ true
one_any p [] i x at passes = cc
one_any p (y ∷ ys) zero x at passes = ap (λ b. b || list_any p ys) (ap p (same_Some y x at) ∙ passes)
one_any p (y ∷ ys) (suc i) x at passes = by (p y) (one_any p ys i x at passes) where
  by : (b : Bool) → list_any p ys ≡ true → (b || list_any p ys) ≡ true
  by true rest = refl
  by false rest = rest

same_differ : (ns : List ℕ) → rules.all_differ ns ≡ numbers.all_differ ns
same_differ [] = refl
same_differ (n ∷ ns) = ap (λ b. not (numbers.has_number ns n) && b) (same_differ ns)

-- ---- the ring of the key itself does not count

abbrev takes : RingKey → ℕ → Entry → Bool
takes key n e = not (is_at (key_cmp key) e.0) && rules.has_number e.1.pages n

others_take : (key : RingKey) (n : ℕ) (rings : List Entry) → list_any (takes key n) rings ≡ list_any (takes key n) (remove_entry (is_at (key_cmp key)) rings)
others_take key n [] = refl
others_take key n (e ∷ es) = by (is_at (key_cmp key) e.0) refl (others_take key n es) where
  by : (b : Bool) → is_at (key_cmp key) e.0 ≡ b → list_any (takes key n) es ≡ list_any (takes key n) (remove_entry (is_at (key_cmp key)) es)
      → (takes key n e || list_any (takes key n) es) ≡ list_any (takes key n) (cond b es (e ∷ remove_entry (is_at (key_cmp key)) es))
  by true at rest = ap (λ b. (not b && rules.has_number e.1.pages n) || list_any (takes key n) es) at
  by false at rest = ap (λ b. takes key n e || b) rest

pub free_without : (live : Live) (key : RingKey) (ns : List ℕ) → are_free_for live key ns ≡ are_free_for (without_ring live key) key ns
free_without live key ns =
    ap (λ b. b && rules.all_differ ns) (all_same (is_free_for live key) (is_free_for (without_ring live key) key)
    (λ n. ap (λ b. has_page live n && not b) (others_take key n live.rings)) ns)

-- ---- where no ring stands under the key

module _ (x : Parts) (is : IsParts x) (key : RingKey) (none : held_at x.rows key ≡ None) where
  found_at : (i : ℕ) (e : Entry) → slice_get (rings_of x.rows) i ≡ Some e → Shown x e.0 e.1
  found_at i e at =
      shown_at x e.0 e.1 (lookup_from_place (eq_by_cmp_equiv key_total) (rings_of x.rows) i e.0 e.1
      (IsDistinct-from_sorted key_cmp (keys_of (rings_of x.rows)) (rings_rising x is)) at)

  no_number : (ps : List ℕ) (n : ℕ) → Apart ps n → numbers.has_number ps n ≡ false
  no_number ps n apart = by (numbers.has_number ps n) refl where
    by : (b : Bool) → numbers.has_number ps n ≡ b → b ≡ false
    by true there = let a = number_there ps n there in absurd (apart a.place a.below a.is)
    by false there = refl

  -- a page that stands by itself is in no ring
  not_taken : (n : ℕ) (b : List ℕ) → page_at x.private n ≡ Some b → list_any (takes key n) (rings_of x.rows) ≡ false
  not_taken n b at = none_any (takes key n) (rings_of x.rows) (λ i e found.
      let s = found_at i e found in
      let apart = not_own (store_of x) is.store e.0 (stood s.row) (ap (option_map stood) s.is) n b at in
      let no = no_number e.1.pages n (subst (λ (r : Ring). Apart r.pages n) s.same apart) in
      both_no (not (is_at (key_cmp key) e.0)) (rules.has_number e.1.pages n) no) where
        both_no : (a c : Bool) → c ≡ false → (a && c) ≡ false
        both_no true c h = h
        both_no false c h = refl

  -- a lent one is in another
  taken : (n : ℕ) (l : Lent (store_of x) n) → list_any (takes key n) (rings_of x.rows) ≡ true
  taken n l = by (held_at x.rows l.home.key) refl where
    at : Lies (store_of x) n l.home
    at = is.store.lies n l.home l.is

    by : (o : Option (Row Held)) → held_at x.rows l.home.key ≡ o → list_any (takes key n) (rings_of x.rows) ≡ true
    by None missing = absurd (none-some at.found (sym (ap (option_map stood) missing) ∙ at.ring))
    by (Some h) found =
        let e : stood h ≡ at.found = same_Some (stood h) at.found (sym (ap (option_map stood) found) ∙ at.ring) in
        let place = ring_at x l.home.key h found in
        let other : l.home.key ≢ key = λ same. none-some h (sym none ∙ ap (held_at x.rows) (sym same) ∙ found) in
        let has : rules.has_number (ring_of h).pages n ≡ true =
        number_at (ring_of h).pages l.home.place n (subst (λ (p : PagedRing). l.home.place < length p.ring.pages) (sym e) at.below)
        (subst (λ (p : PagedRing). slice_index p.ring.pages l.home.place ≡ n) (sym e) at.at) in
        one_any (takes key n) (rings_of x.rows) place.0 (l.home.key, ring_of h) place.1
        (ap (λ b. not b && rules.has_number (ring_of h).pages n) (at_other key l.home.key other) ∙ has)

  is_free : (n : ℕ) → is_free_for (seen x) key n ≡ is_some (page_at x.private n)
  is_free n =
      ⊎_elim
      (λ below. ap (λ b. b && not (list_any (takes key n) (rings_of x.rows))) (page_is_there x is n ∙ inside_is n (length x.private) below) ∙ ⊎_elim
      (λ (a : Alone (store_of x) n). ap not (not_taken n a.bytes a.is) ∙ ap is_some (sym a.is))
      (λ (l : Lent (store_of x) n). ap not (taken n l) ∙ ap is_some (sym l.none))
      (alone_or_lent (store_of x) is.store n below))
      (λ past. ap (λ b. b && not (list_any (takes key n) (rings_of x.rows))) (page_is_there x is n ∙ outside_is n (length x.private) past)
      ∙ nothing (page_at x.private n) refl past)
      (cases_lt n (length x.private)) where
        inside_is : (page count : ℕ) → page < count → nat_lt page count ≡ true
        inside_is page count below = grind (arith, nat_tests)

        outside_is : (page count : ℕ) → count ≤ page → nat_lt page count ≡ false
        outside_is page count past = grind (arith, nat_tests)

        nothing : (o : Option (List ℕ)) → page_at x.private n ≡ o → length x.private ≤ n → false ≡ is_some o
        nothing None at past = refl
        nothing (Some b) at past = absurd (omega (arith, is.store.inside n b at, past))

  -- a ring of the key may stand on just the pages that can be lent
  pub free_is : (ns : List ℕ) → are_free_for (seen x) key ns ≡ can_lend x.private ns
  free_is ns =
      ap (λ b. b && rules.all_differ ns) (all_same (is_free_for (seen x) key) (λ n. is_some (page_at x.private n)) is_free ns)
      ∙ ap (λ b. list_all (λ n. is_some (page_at x.private n)) ns && b) (same_differ ns)

-- ---- the bytes of the pages that are lent

pub numbers-row_of : (pages : List (Option (List ℕ))) (ns : List ℕ) → numbers_of (row_of pages ns) ≡ ns
numbers-row_of pages [] = refl
numbers-row_of pages (n ∷ ns) = ap (λ r. n ∷ r) (numbers-row_of pages ns)

module _ (x : Parts) (is : IsParts x) (ns : List ℕ) (can : IsTrue (can_lend x.private ns)) where
  abbrev lent : List (ℕ × List ℕ)
  lent = row_of x.private ns

  pub lent_in : (i : ℕ) → i < length ns → page_in lent i ≡ (slice_index ns i, unwrap_or (page_at x.private (slice_index ns i)) [])
  lent_in i below = get_or-map (λ n. (n, unwrap_or (page_at x.private n) [])) ns i 0 (0, []) below

  pub lent_length : length lent ≡ length ns
  lent_length = length-map ns (λ n. (n, unwrap_or (page_at x.private n) []))

  pub lent_whole : AreWhole lent
  lent_whole i d below =
      let inside : i < length ns = omega (arith, below, lent_length) in
      let a = lends_alone x is ns can i inside in
      ap (λ (p : ℕ × List ℕ). length p.1) (get_or-map (λ n. (n, unwrap_or (page_at x.private n) [])) ns i 0 d inside)
      ∙ ap (λ o. length (unwrap_or o [])) a.is ∙ is.store.whole (slice_index ns i) a.bytes a.is

  pub lent_bytes_are : ring_bytes (seen x).bytes ns ≡ row_bytes (row_of x.private ns)
  lent_bytes_are =
      free_bytes (store_of x) is.store ns (row_bytes lent) (length-row_bytes lent lent_whole ∙ ap (λ n. 4096 * n) lent_length)
      (λ i below.
      let a = lends_alone x is ns can i below in
      a.is ∙ ap Some (sym (ap (λ (p : ℕ × List ℕ). p.1) (lent_in i below) ∙ ap (λ o. unwrap_or o []) a.is) ∙ row_piece lent i lent_whole (omega (arith, below, lent_length))))
