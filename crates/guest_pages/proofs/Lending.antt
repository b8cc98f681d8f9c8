-- Pages that were lent, or could not be, as the calls of a domain's private pages say it.
use Rattle.std.proofs.Common.{◌≡◌, ℕ, List, map, Option, Bool, true, false, sym, ap, subst, ◌∙◌}
use Rattle.std.specs.Prelude.{is_some}
use Rattle.std.specs.List.{list_all}
use Rattle.guest_pages.specs.declared.lazy_page.Lent.{Lent}
use Rattle.guest_pages.specs.Allocated.{shown, allocated, Each, IsGrown, IsGrownPlace}
use Rattle.guest_pages.specs.Pages.{can_lend, row_of, without, with_row}
use Rattle.guest_pages.specs.PrivateInside.{ArePages}
use Rattle.guest_pages.specs.RowInside.{IsRow}
use Rattle.guest_pages.specs.Rows.{numbered}
use Rattle.guest_pages.specs.Swaps.{blanks, swapped_in, swapped_back}
use Rattle.guest_pages.proofs.AllocatedLaws.{allocated_blanks, allocated_held, full_allocated, grown_back, swapped-shown}
use Rattle.guest_pages.proofs.SwapLaws.{blanks_are_whole, full-swapped_in, lent_row, pages_after, row_of-swapped_in, row_whole_from_held, swapped_back-swapped_in, with_row-swapped_in, without-swapped_in}

abbrev is_filled : List Lent → Bool
is_filled row = list_all (λ e. is_some e.page) row

-- the pages of these numbers were lent: what is left, and the row
pub record HasLent (pages : List (Option (List ℕ))) (numbers : List ℕ) (left : List (Option (List ℕ))) (row : List Lent) : Type 0 where
  pub is_row : IsRow row
  pub are_pages : ArePages left
  pub seen : map numbered row ≡ row_of pages numbers
  pub rest : left ≡ without pages numbers
  pub could : can_lend pages numbers ≡ true

lent_as_seen : (pages left : List (Option (List ℕ))) (numbers : List ℕ) (places row : List Lent) → ArePages pages → places ≡ blanks numbers
    → left ≡ (swapped_in pages places).0 → row ≡ (swapped_in pages places).1 → list_all (λ e. is_some e.page) row ≡ true → HasLent pages numbers left row
lent_as_seen pages left numbers places row are b p r full =
    let q : left ≡ (swapped_in pages (blanks numbers)).0 = p ∙ ap (λ x. (swapped_in pages x).0) b in
    let s : row ≡ (swapped_in pages (blanks numbers)).1 = r ∙ ap (λ x. (swapped_in pages x).1) b in
    let f : is_filled (swapped_in pages (blanks numbers)).1 ≡ true = ap is_filled (sym s) ∙ full in
    record {
      is_row = subst IsRow (sym s) (lent_row pages numbers are.whole f);
      are_pages = subst ArePages (sym q) (pages_after pages (blanks numbers) are (blanks_are_whole pages numbers are.whole).row_whole);
      seen = ap (λ x. map numbered x) s ∙ row_of-swapped_in pages numbers f;
      rest = q ∙ without-swapped_in pages numbers;
      could = sym (full-swapped_in pages numbers) ∙ f;
    }

blank_places : (places : List Lent) (numbers : List ℕ) → places ≡ blanks numbers → map allocated places ≡ places
blank_places places numbers b = ap (λ x. map allocated x) b ∙ allocated_blanks numbers ∙ sym b

pub has_lent : (pages left : List (Option (List ℕ))) (numbers : List ℕ) (places row row' : List Lent) → ArePages (shown pages)
    → places ≡ blanks numbers → left ≡ (swapped_in pages places).0 → row ≡ (swapped_in pages places).1 → row' ≡ map allocated row
    → list_all (λ e. is_some e.page) row ≡ true → HasLent (shown pages) numbers (shown left) row'
has_lent pages left numbers places row row' are b p r has full =
    let changed = swapped-shown pages places in
    let blank = blank_places places numbers b in
    lent_as_seen (shown pages) (shown left) numbers places row' are b
    (ap shown p ∙ changed.0 ∙ ap (λ x. (swapped_in (shown pages) x).0) blank)
    (has ∙ ap (λ x. map allocated x) r ∙ changed.1 ∙ ap (λ x. (swapped_in (shown pages) x).1) blank)
    (ap is_filled has ∙ full_allocated row ∙ full)

-- they could not be lent
pub could_not : (pages : List (Option (List ℕ))) (numbers : List ℕ) (places row : List Lent) → places ≡ blanks numbers
    → row ≡ (swapped_in pages places).1 → list_all (λ e. is_some e.page) row ≡ false → can_lend (shown pages) numbers ≡ false
could_not pages numbers places row b r not_full =
    let changed = swapped-shown pages places in
    sym (full-swapped_in (shown pages) numbers)
    ∙ ap (λ x. is_filled (swapped_in (shown pages) x).1) (sym (blank_places places numbers b ∙ b))
    ∙ ap is_filled (sym changed.1)
    ∙ full_allocated (swapped_in pages places).1
    ∙ ap is_filled (sym r)
    ∙ not_full

-- places were changed, some pages took their memory, and the places were changed back
pub record StandsAgain (pages : List (Option (List ℕ))) (row : List Lent) (pages' : List (Option (List ℕ))) (row' : List Lent) : Type 0 where
  pub pages_so : Each IsGrown pages pages'
  pub row_so : Each IsGrownPlace row row'

pub stands_again : (pages there there' back : List (Option (List ℕ))) (row row_there row_there' row_back : List Lent)
    → there ≡ (swapped_in pages row).0 → row_there ≡ (swapped_in pages row).1
    → Each IsGrown there there' → Each IsGrownPlace row_there row_there'
    → back ≡ (swapped_back there' row_there').0 → row_back ≡ (swapped_back there' row_there').1 → StandsAgain pages row back row_back
stands_again pages there there' back row row_there row_there' row_back a b g h c d =
    let so = swapped_back-swapped_in pages row in
    let went = swapped_in pages row in
    let grown =
    grown_back went.0 there' went.1 row_there' (subst (λ x. Each IsGrown x there') a g) (subst (λ x. Each IsGrownPlace x row_there') b h) in
    record {
      pages_so =
          subst (λ x. Each IsGrown x back) so.pages_back
          (subst (λ x. Each IsGrown (swapped_back went.0 went.1).0 x) (sym c) grown.pages_grown);
      row_so =
          subst (λ x. Each IsGrownPlace x row_back) so.row_back
          (subst (λ x. Each IsGrownPlace (swapped_back went.0 went.1).1 x) (sym d) grown.row_grown);
    }

-- a row was given back
pub record HasRow (pages : List (Option (List ℕ))) (row : List (ℕ × List ℕ)) (pages' : List (Option (List ℕ))) : Type 0 where
  pub are_pages : ArePages pages'
  pub is : pages' ≡ with_row pages row

row_as_seen : (pages now pages' : List (Option (List ℕ))) (places : List Lent) (row : List (ℕ × List ℕ)) → ArePages pages → IsRow places
    → pages ≡ now → map numbered places ≡ row → pages' ≡ (swapped_in pages places).0 → HasRow now row pages'
row_as_seen pages now pages' places row are is same seen p =
    record {
      are_pages = subst ArePages (sym p) (pages_after pages places are (row_whole_from_held places is.whole));
      is =
          p ∙ with_row-swapped_in pages places is.whole ∙ ap (λ x. with_row x (map numbered places)) same ∙ ap (λ x. with_row now x) seen;
    }

pub has_row : (pages : List (Option (List ℕ))) (now : List (Option (List ℕ))) (pages' : List (Option (List ℕ))) (places : List Lent) (row : List (ℕ × List ℕ))
    → ArePages (shown pages) → IsRow places → shown pages ≡ now → map numbered places ≡ row → pages' ≡ (swapped_in pages places).0
    → HasRow now row (shown pages')
has_row pages now pages' places row are is same seen p =
    row_as_seen (shown pages) now (shown pages') places row are is same seen
    (ap shown p ∙ (swapped-shown pages places).0 ∙ ap (λ x. (swapped_in (shown pages) x).0) (allocated_held places is.whole))
