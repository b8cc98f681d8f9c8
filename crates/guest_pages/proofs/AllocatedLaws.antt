-- Laws of pages that take their memory.
use Rattle.std.proofs.Common.{◌≡◌, ℕ, zero, suc, ◌+◌, ◌<◌, ◌≤◌, List, [], ◌∷◌, ◌++◌, length, map, take, drop, replicate, Option, Some, None, refl, sym, ap, subst, ◌∙◌, inl, inr, arith}
use Rattle.std.specs.Prelude.{◌&&◌, is_some, option_map, slice_set, slice_index_or}
use Rattle.std.specs.List.{list_all, All}
use Rattle.std.proofs.Math.ListN.{get_or-map}
use Rattle.std.proofs.Math.Seq.{drop-cons}
use Rattle.std.proofs.lemmas.List.{length-set, map-set}
use Rattle.std.proofs.lemmas.List.Elements.{All-head, All-set, All-tail}
use Rattle.argo_base.specs.Splice.{splice}
use Rattle.argo_base.proofs.SpliceLaws.{length-splice}
use Rattle.guest_pages.specs.declared.lazy_page.Lent.{Lent}
use Rattle.guest_pages.specs.Allocated.{shown, allocated, Each, IsGrown, IsGrownPlace}
use Rattle.guest_pages.specs.PageBytes.{page_of, zero_page, HoldsPage, IsWhole}
use Rattle.guest_pages.specs.Pages.{page_at, with_written}
use Rattle.guest_pages.specs.PrivateInside.{ArePages}
use Rattle.guest_pages.specs.Swaps.{blanks, swapped_in, swapped_back}
use Rattle.guest_pages.proofs.PageLaws.{length-page_of, page_of_none, page_of-whole}
use Rattle.guest_pages.proofs.RowLaws.{place_of}

-- ---- a page

allocated_twice : (p : Option (List ℕ)) → option_map page_of (option_map page_of p) ≡ option_map page_of p
allocated_twice None = refl
allocated_twice (Some p) = ap Some (page_of-whole (page_of p) (length-page_of p))

held_stays : (p : Option (List ℕ)) → HoldsPage p → option_map page_of p ≡ p
held_stays None held = absurd held
held_stays (Some p) held = ap Some (page_of-whole p held)

grown_shown : (p q : Option (List ℕ)) → IsGrown p q → option_map page_of q ≡ option_map page_of p
grown_shown p q (inl same) = ap (option_map page_of) same
grown_shown p q (inr grew) = ap (option_map page_of) grew ∙ allocated_twice p

grown_held : (p q : Option (List ℕ)) → HoldsPage p → IsGrown p q → q ≡ p
grown_held p q held (inl same) = same
grown_held p q held (inr grew) = grew ∙ held_stays p held

pub grown_place : (e f : Lent) → IsGrownPlace e f → IsGrownPlace e (allocated f)
grown_place e f grown = record { number = grown.number; page = inr (grown_shown e.page f.page grown.page) }

-- ---- lists that stand so to one another

pub each_same : {A : Type 0} (R : A → A → Type 0) → ((x : A) → R x x) → (xs : List A) → Each R xs xs
each_same R same [] = tt
each_same R same (x ∷ xs) = (same x, each_same R same xs)

pub each_length : {A : Type 0} (R : A → A → Type 0) (xs ys : List A) → Each R xs ys → length ys ≡ length xs
each_length R [] [] each = refl
each_length R [] (y ∷ ys) each = absurd each
each_length R (x ∷ xs) [] each = absurd each
each_length R (x ∷ xs) (y ∷ ys) each = ap suc (each_length R xs ys each.1)

pub each_set : {A : Type 0} (R : A → A → Type 0) (xs ys : List A) (n : ℕ) (x y : A) → Each R xs ys → R x y → Each R (slice_set xs n x) (slice_set ys n y)
each_set R [] [] n x y each here = tt
each_set R [] (b ∷ bs) n x y each here = absurd each
each_set R (a ∷ as') [] n x y each here = absurd each
each_set R (a ∷ as') (b ∷ bs) zero x y each here = (here, each.1)
each_set R (a ∷ as') (b ∷ bs) (suc n) x y each here = (each.0, each_set R as' bs n x y each.1 here)

pub each_at : {A : Type 0} (R : A → A → Type 0) (xs ys : List A) (n : ℕ) (x y : A) → Each R xs ys → R x y → R (slice_index_or xs n x) (slice_index_or ys n y)
each_at R [] [] n x y each here = here
each_at R [] (b ∷ bs) n x y each here = absurd each
each_at R (a ∷ as') [] n x y each here = absurd each
each_at R (a ∷ as') (b ∷ bs) zero x y each here = each.0
each_at R (a ∷ as') (b ∷ bs) (suc n) x y each here = each_at R as' bs n x y each.1 here

pub same_page : (p : Option (List ℕ)) → IsGrown p p
same_page p = inl refl

pub same_place_grown : (e : Lent) → IsGrownPlace e e
same_place_grown e = record { number = refl; page = inl refl }

-- one more place has its memory
pub each_allocated : (row row' : List Lent) (n : ℕ) (e : Lent) → Each IsGrownPlace row row' → e ≡ slice_index_or row' n e
    → Each IsGrownPlace row (slice_set row' n (allocated e))
each_allocated [] [] n e each is = tt
each_allocated [] (b ∷ bs) n e each is = absurd each
each_allocated (a ∷ as') [] n e each is = absurd each
each_allocated (a ∷ as') (b ∷ bs) zero e each is =
    (subst (λ x. IsGrownPlace a (allocated x)) (sym is) (grown_place a b each.0), each.1)
each_allocated (a ∷ as') (b ∷ bs) (suc n) e each is = (each.0, each_allocated as' bs n e each.1 is)

walked : (row : List Lent) (k : ℕ) (e : Lent) → k < length row
    → take k row ++ (e ∷ map allocated (drop (suc k) row)) ≡ take (suc k) (slice_set row k e) ++ map allocated (drop (suc k) (slice_set row k e))
walked [] k e inside = absurd (omega (arith, inside))
walked (x ∷ xs) zero e inside = refl
walked (x ∷ xs) (suc k) e inside = ap (λ ys. x ∷ ys) (walked xs k e (omega (arith, inside)))

-- a step of the walk in which each place takes its memory
pub allocated_step : (init row : List Lent) (k : ℕ) (e e' : Lent) → k < length row → slice_index_or row k e ≡ e → e' ≡ allocated e
    → map allocated init ≡ take k row ++ map allocated (drop k row)
    → map allocated init ≡ take (k + 1) (slice_set row k e') ++ map allocated (drop (k + 1) (slice_set row k e'))
allocated_step init row k e e' inside is new so =
    let next : suc k ≡ k + 1 = omega arith in
    so
    ∙ ap (λ xs. take k row ++ map allocated xs) (drop-cons row k e inside ∙ ap (λ x. x ∷ drop (suc k) row) is)
    ∙ ap (λ x. take k row ++ (x ∷ map allocated (drop (suc k) row))) (sym new)
    ∙ walked row k e' inside
    ∙ ap (λ n. take n (slice_set row k e') ++ map allocated (drop n (slice_set row k e'))) next

-- pages that grew are seen as they were
pub grown_seen : (pages pages' : List (Option (List ℕ))) → Each IsGrown pages pages' → shown pages' ≡ shown pages
grown_seen [] [] each = refl
grown_seen [] (q ∷ qs) each = absurd each
grown_seen (p ∷ ps) [] each = absurd each
grown_seen (p ∷ ps) (q ∷ qs) each =
    ap (λ x. x ∷ shown qs) (grown_shown p q each.0) ∙ ap (λ xs. option_map page_of p ∷ xs) (grown_seen ps qs each.1)

-- a row whose pages have their memory stays
pub grown_row : (row row' : List Lent) → All (λ e. HoldsPage e.page) row → Each IsGrownPlace row row' → row' ≡ row
grown_row [] [] held each = refl
grown_row [] (f ∷ fs) held each = absurd each
grown_row (e ∷ es) [] held each = absurd each
grown_row (e ∷ es) (f ∷ fs) held each =
    ap (λ n. place_of n f.page ∷ fs) each.0.number
    ∙ ap (λ p. place_of e.number p ∷ fs) (grown_held e.page f.page (All-head (λ (x : Lent). HoldsPage x.page) e es held) each.0.page)
    ∙ ap (λ xs. e ∷ xs) (grown_row es fs (All-tail (λ (x : Lent). HoldsPage x.page) e es held) each.1)

-- ---- pages change places

-- pages change places as they are seen to
pub swapped-shown : (pages : List (Option (List ℕ))) (row : List Lent)
    → (shown (swapped_in pages row).0 ≡ (swapped_in (shown pages) (map allocated row)).0)
    × (map allocated (swapped_in pages row).1 ≡ (swapped_in (shown pages) (map allocated row)).1)
swapped-shown pages [] = (refl, refl)
swapped-shown pages (e ∷ es) =
    let set = map-set (option_map page_of) pages e.number e.page in
    let at = get_or-map (option_map page_of) pages e.number e.page in
    let rest = swapped-shown (slice_set pages e.number e.page) es in (
      rest.0 ∙ ap (λ x. (swapped_in x (map allocated es)).0) set,
      ap (λ p. place_of e.number p ∷ map allocated (swapped_in (slice_set pages e.number e.page) es).1) (sym at)
          ∙ ap (λ xs. place_of e.number (slice_index_or (shown pages) e.number (option_map page_of e.page)) ∷ xs)
          (rest.1 ∙ ap (λ x. (swapped_in x (map allocated es)).1) set),
    )

pub allocated_blanks : (ns : List ℕ) → map allocated (blanks ns) ≡ blanks ns
allocated_blanks [] = refl
allocated_blanks (n ∷ ns) = ap (λ xs. place_of n None ∷ xs) (allocated_blanks ns)

pub allocated_held : (row : List Lent) → All (λ e. HoldsPage e.page) row → map allocated row ≡ row
allocated_held [] held = refl
allocated_held (e ∷ es) held =
    ap (λ p. place_of e.number p ∷ map allocated es) (held_stays e.page (All-head (λ (x : Lent). HoldsPage x.page) e es held))
    ∙ ap (λ xs. e ∷ xs) (allocated_held es (All-tail (λ (x : Lent). HoldsPage x.page) e es held))

still_there : (p : Option (List ℕ)) → is_some (option_map page_of p) ≡ is_some p
still_there None = refl
still_there (Some p) = refl

pub full_allocated : (row : List Lent) → list_all (λ e. is_some e.page) (map allocated row) ≡ list_all (λ e. is_some e.page) row
full_allocated [] = refl
full_allocated (e ∷ es) =
    ap (λ b. b && list_all (λ x. is_some x.page) (map allocated es)) (still_there e.page)
    ∙ ap (λ b. is_some e.page && b) (full_allocated es)

-- what grew is as grown on the way back
pub record BothGrown (pages pages' : List (Option (List ℕ))) (row row' : List Lent) : Type 0 where
  pub pages_grown : Each IsGrown pages pages'
  pub row_grown : Each IsGrownPlace row row'

pub grown_back : (pages pages' : List (Option (List ℕ))) (row row' : List Lent) → Each IsGrown pages pages' → Each IsGrownPlace row row'
    → BothGrown (swapped_back pages row).0 (swapped_back pages' row').0 (swapped_back pages row).1 (swapped_back pages' row').1
grown_back pages pages' [] [] grown each = record { pages_grown = grown; row_grown = tt }
grown_back pages pages' [] (f ∷ fs) grown each = absurd each
grown_back pages pages' (e ∷ es) [] grown each = absurd each
grown_back pages pages' (e ∷ es) (f ∷ fs) grown each =
    let rest = grown_back pages pages' es fs grown each.1 in
    let here = (swapped_back pages es).0 in
    let there = (swapped_back pages' fs).0 in
    let number = each.0.number in
    record {
      pages_grown =
          subst (λ n. Each IsGrown (slice_set here e.number e.page) (slice_set there n f.page)) (sym number)
          (each_set IsGrown here there e.number e.page f.page rest.pages_grown each.0.page);
      row_grown = (
        record {
          number = number;
          page =
              subst (λ n. IsGrown (slice_index_or here e.number e.page) (slice_index_or there n f.page)) (sym number)
              (each_at IsGrown here there e.number e.page f.page rest.pages_grown each.0.page);
        },
        rest.row_grown,
      );
    }

-- ---- pages of a domain, as they are seen

pub shown_fresh : (n : ℕ) → shown (replicate n (Some [])) ≡ replicate n (Some zero_page)
shown_fresh zero = refl
shown_fresh (suc n) =
    ap (λ p. Some p ∷ shown (replicate n (Some []))) page_of_none ∙ ap (λ xs. Some zero_page ∷ xs) (shown_fresh n)

pub page_at_shown : (pages : List (Option (List ℕ))) (n : ℕ) → page_at (shown pages) n ≡ option_map page_of (page_at pages n)
page_at_shown pages n = get_or-map (option_map page_of) pages n None

-- a page of a domain is written
pub shown_written : (pages : List (Option (List ℕ))) (n off : ℕ) (p bytes : List ℕ) → page_at pages n ≡ Some p → off + length bytes ≤ 4096
    → shown (slice_set pages n (Some (splice (page_of p) off bytes))) ≡ with_written (shown pages) n off bytes
shown_written pages n off p bytes at inside =
    let there : page_at (shown pages) n ≡ Some (page_of p) = page_at_shown pages n ∙ ap (option_map page_of) at in
    map-set (option_map page_of) pages n (Some (splice (page_of p) off bytes))
    ∙ ap (λ q. slice_set (shown pages) n (Some q))
    (page_of-whole (splice (page_of p) off bytes)
    (length-splice (page_of p) bytes off (omega (arith, inside, length-page_of p)) ∙ length-page_of p))
    ∙ ap (λ o. slice_set (shown pages) n (option_map (λ q. splice q off bytes) o)) (sym there)

-- what always holds of a domain's pages holds when one is written
pub pages_written : (pages : List (Option (List ℕ))) (n : ℕ) (p : List ℕ) → ArePages (shown pages) → ArePages (shown (slice_set pages n (Some p)))
pages_written pages n p are =
    let same : shown (slice_set pages n (Some p)) ≡ slice_set (shown pages) n (Some (page_of p)) = map-set (option_map page_of) pages n (Some p) in
    subst ArePages (sym same) (record {
      few = omega (arith, are.few, length-set (shown pages) n (Some (page_of p)));
      whole = All-set IsWhole (shown pages) n (Some (page_of p)) (length-page_of p) are.whole;
    })
