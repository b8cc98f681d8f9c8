-- Laws of pages that change places.
use Rattle.std.proofs.Common.{◌≡◌, ℕ, suc, ◌+◌, ◌<◌, ◌≤◌, List, [], ◌∷◌, length, map, take, drop, Option, Some, None, Bool, true, false, refl, sym, ap, subst, ◌∙◌, arith, ⊎_elim}
use Rattle.std.specs.Prelude.{◌&&◌, ◌||◌, not, ◌==◌, is_some, unwrap_or, slice_index_or, slice_set}
use Rattle.std.specs.List.{list_all, All}
use Rattle.std.proofs.Math.Seq.{drop-cons}
use Rattle.std.proofs.lemmas.Bool.{cases_lt, cases_Bool, eqb-true, eqb-false, and_parts, not-true, both_ways}
use Rattle.std.proofs.lemmas.List.{length-set, set-set, set-get_or, set_past, get_or-set_same, get_or-set_other, get_or-take, take-take, take-set, drop-set, get_or_past}
use Rattle.std.proofs.lemmas.List.Elements.{All-nil, All-cons, All-head, All-tail, All-set, All-weaker}
use Rattle.guest_pages.specs.declared.lazy_page.Lent.{Lent}
use Rattle.argo_base.specs.Numbers.{has_number, all_differ}
use Rattle.guest_pages.specs.PageBytes.{HoldsPage, IsWhole}
use Rattle.guest_pages.specs.Pages.{page_at, can_lend, row_of, without, with_row}
use Rattle.guest_pages.specs.PrivateInside.{ArePages}
use Rattle.guest_pages.specs.RowInside.{IsRow}
use Rattle.guest_pages.specs.Rows.{numbered}
use Rattle.guest_pages.specs.Swaps.{blanks, swapped_in, swapped_back}
use Rattle.guest_pages.proofs.RowLaws.{place_of}

pub same_place : (e : Lent) (n : ℕ) (p : Option (List ℕ)) → e.number ≡ n → e.page ≡ p → e ≡ place_of n p
same_place e n p a b = ap (λ x. place_of x e.page) a ∙ ap (λ x. place_of n x) b

-- ---- there and back

-- what a place of a row holds after it changed it twice with one number
twice : (pages : List (Option (List ℕ))) (n : ℕ) (p : Option (List ℕ)) → slice_index_or (slice_set pages n p) n (slice_index_or pages n p) ≡ p
twice pages n p =
    ⊎_elim (λ inside. get_or-set_same pages n p (slice_index_or pages n p) inside)
    (λ past. ap (λ x. slice_index_or x n (slice_index_or pages n p)) (set_past pages n p past) ∙ get_or_past pages n (slice_index_or pages n p) past ∙ get_or_past pages n p past)
    (cases_lt n (length pages))

pub record IsBack (pages : List (Option (List ℕ))) (row : List Lent) (after : List (Option (List ℕ)) × List Lent) : Type 0 where
  pub pages_back : after.0 ≡ pages
  pub row_back : after.1 ≡ row

-- the way back undoes the way there
pub swapped_back-swapped_in : (pages : List (Option (List ℕ))) (row : List Lent) → IsBack pages row (swapped_back (swapped_in pages row).0 (swapped_in pages row).1)
swapped_back-swapped_in pages [] = record { pages_back = refl; row_back = refl }
swapped_back-swapped_in pages (e ∷ es) =
    let was = slice_index_or pages e.number e.page in
    let there = slice_set pages e.number e.page in
    let back = swapped_back-swapped_in there es in
    record {
      pages_back =
          ap (λ x. slice_set x e.number was) back.pages_back ∙ set-set pages e.number e.page was ∙ set-get_or pages e.number e.page;
      row_back =
          ap (λ x. place_of e.number (slice_index_or x e.number was) ∷ (swapped_back (swapped_in there es).0 (swapped_in there es).1).1) back.pages_back
          ∙ ap (λ x. place_of e.number (slice_index_or there e.number was) ∷ x) back.row_back
          ∙ ap (λ x. place_of e.number x ∷ es) (twice pages e.number e.page);
    }

-- ---- a step of the way back

pub record IsAt (start : List (Option (List ℕ))) (init row : List Lent) (pages : List (Option (List ℕ))) (left : ℕ) : Type 0 where
  pub inside : left ≤ length row
  pub long : length row ≡ length init
  pub pages_so : pages ≡ (swapped_back start (drop left init)).0
  pub row_so : drop left row ≡ (swapped_back start (drop left init)).1
  pub before : take left row ≡ take left init

pub back_step : (start : List (Option (List ℕ))) (init row : List Lent) (pages pages' : List (Option (List ℕ))) (left k : ℕ) (e e' : Lent)
    → left ≡ k + 1 → IsAt start init row pages left → e ≡ slice_index_or row k e
    → pages' ≡ slice_set pages e.number e.page → e'.number ≡ e.number → e'.page ≡ slice_index_or pages e.number e.page
    → IsAt start init (slice_set row k e') pages' k
back_step start init row pages pages' left k e e' next so is p n q =
    let s : suc k ≡ left = omega arith in
    let inside : k < length row = omega (arith, so.inside) in
    let e_was : slice_index_or init k e ≡ e =
    sym (get_or-take left init k e (omega arith)) ∙ ap (λ xs. slice_index_or xs k e) (sym so.before) ∙ get_or-take left row k e (omega arith) ∙ sym is in
    let d : drop k init ≡ e ∷ drop left init =
    drop-cons init k e (omega (arith, so.long)) ∙ ap (λ x. x ∷ drop (suc k) init) e_was ∙ ap (λ j. e ∷ drop j init) s in
    let rest = swapped_back start (drop left init) in
    record {
      inside = omega (arith, length-set row k e');
      long = length-set row k e' ∙ so.long;
      pages_so = p ∙ ap (λ x. slice_set x e.number e.page) so.pages_so ∙ ap (λ xs. (swapped_back start xs).0) (sym d);
      row_so =
          drop-set row k e' inside
          ∙ ap (λ x. x ∷ drop (k + 1) row) (same_place e' e.number (slice_index_or pages e.number e.page) n q)
          ∙ ap (λ x. place_of e.number (slice_index_or x e.number e.page) ∷ drop (k + 1) row) so.pages_so
          ∙ ap (λ j. place_of e.number (slice_index_or rest.0 e.number e.page) ∷ drop j row) (sym next)
          ∙ ap (λ x. place_of e.number (slice_index_or rest.0 e.number e.page) ∷ x) so.row_so
          ∙ ap (λ xs. (swapped_back start xs).1) (sym d);
      before =
          take-set row k e' ∙ sym (take-take k left row (omega arith)) ∙ ap (take k) so.before ∙ take-take k left init (omega arith);
    }

-- ---- what always holds of pages holds when they change places

pub record AreWhole (pages : List (Option (List ℕ))) (row : List Lent) : Type 0 where
  pub pages_whole : All IsWhole pages
  pub row_whole : All (λ e. IsWhole e.page) row

read_whole : (pages : List (Option (List ℕ))) (n : ℕ) (p : Option (List ℕ)) → All IsWhole pages → IsWhole p → IsWhole (slice_index_or pages n p)
read_whole pages n p all here =
    ⊎_elim (λ inside. all n p inside)
    (λ past. subst IsWhole (sym (get_or_past pages n p past)) here)
    (cases_lt n (length pages))

pub swapped_in_whole : (pages : List (Option (List ℕ))) (row : List Lent) → AreWhole pages row → AreWhole (swapped_in pages row).0 (swapped_in pages row).1
swapped_in_whole pages [] are = are
swapped_in_whole pages (e ∷ es) are =
    let here : IsWhole e.page = All-head (λ (x : Lent). IsWhole x.page) e es are.row_whole in
    let rest =
    swapped_in_whole (slice_set pages e.number e.page) es (record {
      pages_whole = All-set IsWhole pages e.number e.page here are.pages_whole;
      row_whole = All-tail (λ (x : Lent). IsWhole x.page) e es are.row_whole;
    }) in
    record {
      pages_whole = rest.pages_whole;
      row_whole =
          All-cons (λ (x : Lent). IsWhole x.page) (place_of e.number (slice_index_or pages e.number e.page))
          (swapped_in (slice_set pages e.number e.page) es).1 (read_whole pages e.number e.page are.pages_whole here) rest.row_whole;
    }

pub length-swapped_in : (pages : List (Option (List ℕ))) (row : List Lent) → length (swapped_in pages row).0 ≡ length pages
length-swapped_in pages [] = refl
length-swapped_in pages (e ∷ es) = length-swapped_in (slice_set pages e.number e.page) es ∙ length-set pages e.number e.page

pub numbers-swapped_in : (pages : List (Option (List ℕ))) (row : List Lent) → map (λ e. e.number) (swapped_in pages row).1 ≡ map (λ e. e.number) row
numbers-swapped_in pages [] = refl
numbers-swapped_in pages (e ∷ es) = ap (λ ns. e.number ∷ ns) (numbers-swapped_in (slice_set pages e.number e.page) es)

-- ---- a row is given back

held_is : (p : Option (List ℕ)) → HoldsPage p → Some (unwrap_or p []) ≡ p
held_is None held = absurd held
held_is (Some p) held = refl

pub with_row-swapped_in : (pages : List (Option (List ℕ))) (row : List Lent) → All (λ e. HoldsPage e.page) row
    → (swapped_in pages row).0 ≡ with_row pages (map numbered row)
with_row-swapped_in pages [] held = refl
with_row-swapped_in pages (e ∷ es) held =
    with_row-swapped_in (slice_set pages e.number e.page) es (All-tail (λ (x : Lent). HoldsPage x.page) e es held)
    ∙ ap (λ p. with_row (slice_set pages e.number p) (map numbered es)) (sym (held_is e.page (All-head (λ (x : Lent). HoldsPage x.page) e es held)))

whole_from_held : (p : Option (List ℕ)) → HoldsPage p → IsWhole p
whole_from_held None held = tt
whole_from_held (Some p) held = held

pub row_whole_from_held : (row : List Lent) → All (λ e. HoldsPage e.page) row → All (λ e. IsWhole e.page) row
row_whole_from_held row held =
    All-weaker (λ (x : Lent). HoldsPage x.page) (λ (x : Lent). IsWhole x.page) (λ x h. whole_from_held x.page h) row held

-- ---- pages are lent

pub without-swapped_in : (pages : List (Option (List ℕ))) (numbers : List ℕ) → (swapped_in pages (blanks numbers)).0 ≡ without pages numbers
without-swapped_in pages [] = refl
without-swapped_in pages (n ∷ ns) = without-swapped_in (slice_set pages n None) ns

-- where a page was taken, that page stands no more, and all others stand
taken-same : (pages : List (Option (List ℕ))) (n : ℕ) → page_at (slice_set pages n None) n ≡ None
taken-same pages n =
    ⊎_elim (λ inside. get_or-set_same pages n None None inside)
    (λ past. ap (λ x. page_at x n) (set_past pages n None past) ∙ get_or_past pages n None past)
    (cases_lt n (length pages))

taken-other : (pages : List (Option (List ℕ))) (n m : ℕ) → (m == n) ≡ false → page_at (slice_set pages n None) m ≡ page_at pages m
taken-other pages n m other = get_or-set_other pages n m None None (eqb-false m n other)

stands_after : (pages : List (Option (List ℕ))) (n m : ℕ) → is_some (page_at (slice_set pages n None) m) ≡ (not (m == n) && is_some (page_at pages m))
stands_after pages n m =
    ⊎_elim
    (λ same. ap (λ k. is_some (page_at (slice_set pages n None) k)) (eqb-true m n same) ∙ ap is_some (taken-same pages n) ∙ ap (λ b. not b && is_some (page_at pages m)) (sym same))
    (λ other. ap is_some (taken-other pages n m other) ∙ ap (λ b. not b && is_some (page_at pages m)) (sym other))
    (cases_Bool (m == n))

apart : (a b c d : Bool) → ((not a && b) && (not c && d)) ≡ (not (a || c) && (b && d))
apart true b c d = refl
apart false true c d = refl
apart false false true d = refl
apart false false false d = refl

all_stand_after : (pages : List (Option (List ℕ))) (n : ℕ) (ns : List ℕ)
    → list_all (λ m. is_some (page_at (slice_set pages n None) m)) ns ≡ (not (has_number ns n) && list_all (λ m. is_some (page_at pages m)) ns)
all_stand_after pages n [] = refl
all_stand_after pages n (m ∷ ms) =
    ap (λ b. b && list_all (λ k. is_some (page_at (slice_set pages n None) k)) ms) (stands_after pages n m)
    ∙ ap (λ b. (not (m == n) && is_some (page_at pages m)) && b) (all_stand_after pages n ms)
    ∙ apart (m == n) (is_some (page_at pages m)) (has_number ms n) (list_all (λ k. is_some (page_at pages k)) ms)

regrouped : (a b c d : Bool) → (a && ((b && c) && d)) ≡ ((a && c) && (b && d))
regrouped false b c d = refl
regrouped true true c d = refl
regrouped true false true d = refl
regrouped true false false d = refl

-- each place of a blank row is filled exactly where the pages can be lent
pub full-swapped_in : (pages : List (Option (List ℕ))) (numbers : List ℕ) → list_all (λ e. is_some e.page) (swapped_in pages (blanks numbers)).1 ≡ can_lend pages numbers
full-swapped_in pages [] = refl
full-swapped_in pages (n ∷ ns) =
    ap (λ b. is_some (page_at pages n) && b) (full-swapped_in (slice_set pages n None) ns ∙ ap (λ b. b && all_differ ns) (all_stand_after pages n ns))
    ∙ regrouped (is_some (page_at pages n)) (not (has_number ns n)) (list_all (λ m. is_some (page_at pages m)) ns) (all_differ ns)

neither : (a b : Bool) → (a || b) ≡ false → (a ≡ false) × (b ≡ false)
neither true b h = absurd (both_ways true h refl)
neither false b h = (refl, h)

row_of-after : (pages : List (Option (List ℕ))) (n : ℕ) (ns : List ℕ) → has_number ns n ≡ false → row_of (slice_set pages n None) ns ≡ row_of pages ns
row_of-after pages n [] apart_from = refl
row_of-after pages n (m ∷ ms) apart_from =
    let parts = neither (m == n) (has_number ms n) apart_from in
    ap (λ p. (m, unwrap_or p []) ∷ row_of (slice_set pages n None) ms) (taken-other pages n m parts.0)
    ∙ ap (λ row. (m, unwrap_or (page_at pages m) []) ∷ row) (row_of-after pages n ms parts.1)

-- where each place of a blank row is filled, it is the row of the pages of these numbers
pub row_of-swapped_in : (pages : List (Option (List ℕ))) (numbers : List ℕ) → list_all (λ e. is_some e.page) (swapped_in pages (blanks numbers)).1 ≡ true
    → map numbered (swapped_in pages (blanks numbers)).1 ≡ row_of pages numbers
row_of-swapped_in pages [] full = refl
row_of-swapped_in pages (n ∷ ns) full =
    let after = slice_set pages n None in
    let rest = (and_parts (is_some (page_at pages n)) (list_all (λ e. is_some e.page) (swapped_in after (blanks ns)).1) full).1 in
    let could : can_lend after ns ≡ true = sym (full-swapped_in after ns) ∙ rest in
    let stand = (and_parts (list_all (λ m. is_some (page_at after m)) ns) (all_differ ns) could).0 in
    let free = (and_parts (not (has_number ns n)) (list_all (λ m. is_some (page_at pages m)) ns) (sym (all_stand_after pages n ns) ∙ stand)).0 in
    ap (λ row. (n, unwrap_or (page_at pages n) []) ∷ row)
    (row_of-swapped_in after ns rest ∙ row_of-after pages n ns (not-true (has_number ns n) free))

numbers-blanks : (ns : List ℕ) → map (λ e. e.number) (blanks ns) ≡ ns
numbers-blanks [] = refl
numbers-blanks (n ∷ ns) = ap (λ x. n ∷ x) (numbers-blanks ns)

holds_from_whole : (p : Option (List ℕ)) → is_some p ≡ true → IsWhole p → HoldsPage p
holds_from_whole None is whole = both_ways false refl is
holds_from_whole (Some p) is whole = whole

row_held : (row : List Lent) → list_all (λ e. is_some e.page) row ≡ true → All (λ e. IsWhole e.page) row → All (λ e. HoldsPage e.page) row
row_held [] full whole = All-nil (λ (x : Lent). HoldsPage x.page)
row_held (e ∷ es) full whole =
    let parts = and_parts (is_some e.page) (list_all (λ x. is_some x.page) es) full in
    All-cons (λ (x : Lent). HoldsPage x.page) e es
    (holds_from_whole e.page parts.0 (All-head (λ (x : Lent). IsWhole x.page) e es whole))
    (row_held es parts.1 (All-tail (λ (x : Lent). IsWhole x.page) e es whole))

blanks_whole : (ns : List ℕ) → All (λ e. IsWhole e.page) (blanks ns)
blanks_whole [] = All-nil (λ (x : Lent). IsWhole x.page)
blanks_whole (n ∷ ns) = All-cons (λ (x : Lent). IsWhole x.page) (place_of n None) (blanks ns) tt (blanks_whole ns)

pub blanks_are_whole : (pages : List (Option (List ℕ))) (ns : List ℕ) → All IsWhole pages → AreWhole pages (blanks ns)
blanks_are_whole pages ns whole = record { pages_whole = whole; row_whole = blanks_whole ns }

-- a blank row that was filled is a row
pub lent_row : (pages : List (Option (List ℕ))) (numbers : List ℕ) → All IsWhole pages
    → list_all (λ e. is_some e.page) (swapped_in pages (blanks numbers)).1 ≡ true → IsRow (swapped_in pages (blanks numbers)).1
lent_row pages numbers whole full =
    let row = blanks numbers in
    let could : can_lend pages numbers ≡ true = sym (full-swapped_in pages numbers) ∙ full in
    record {
      differ =
          ap all_differ (numbers-swapped_in pages row ∙ numbers-blanks numbers)
          ∙ (and_parts (list_all (λ n. is_some (page_at pages n)) numbers) (all_differ numbers) could).1;
      whole = row_held (swapped_in pages row).1 full (swapped_in_whole pages row (blanks_are_whole pages numbers whole)).row_whole;
    }

-- what always holds of private pages holds where pages change places
pub pages_after : (pages : List (Option (List ℕ))) (row : List Lent) → ArePages pages → All (λ e. IsWhole e.page) row → ArePages (swapped_in pages row).0
pages_after pages row are whole =
    record {
      few = omega (arith, are.few, length-swapped_in pages row);
      whole = (swapped_in_whole pages row (record { pages_whole = are.whole; row_whole = whole })).pages_whole;
    }
