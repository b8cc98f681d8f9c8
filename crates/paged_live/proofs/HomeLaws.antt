-- Laws of homes, and of pages by their numbers, as they change along a list.
use Rattle.std.proofs.Common.{◌≡◌, ◌≢◌, ℕ, zero, suc, ◌+◌, ◌<◌, List, [], ◌∷◌, length, take, drop, slice_index, Option, Some, None, ⊎_elim, refl, sym, ap, ◌∙◌, arith}
use Rattle.std.specs.Prelude.{slice_set}
use Rattle.std.specs.List.{All}
use Rattle.std.proofs.lemmas.Bool.{cases_eq, cases_lt}
use Rattle.std.proofs.lemmas.List.{length-set, length-map, get_or-set_same, get_or-set_other, get_or_past, take_all}
use Rattle.argo_base.specs.declared.ring_key.RingKey.{RingKey}
use Rattle.guest_pages.specs.Pages.{page_at, without, with_row}
use Rattle.guest_pages.specs.Rows.{numbers_of, row_bytes, page_in}
use Rattle.guest_pages.proofs.FlatLaws.{page-row_bytes}
use Rattle.paged_live.specs.declared.home.Home.{Home}
use Rattle.paged_live.specs.Homes.{home, home_at, with_home, settled, cleared}
use Rattle.paged_live.specs.Store.{piece}
use Rattle.paged_live.proofs.PageLaws.{Differ}
use Rattle.paged_live.proofs.MoveLaws.{Apart}

abbrev tail_differ : (p : ℕ) (ps : List ℕ) → Differ (p ∷ ps) → Differ ps
tail_differ p ps differ a b la lb same = let e : suc a ≡ suc b = differ (suc a) (suc b) (omega arith) (omega arith) same in omega arith

first_apart : (p : ℕ) (ps : List ℕ) → Differ (p ∷ ps) → Apart ps p
first_apart p ps differ i below same = let e : suc i ≡ 0 = differ (suc i) 0 (omega arith) (omega arith) same in omega arith

tail_apart : (p : ℕ) (ps : List ℕ) (n : ℕ) → Apart (p ∷ ps) n → Apart ps n
tail_apart p ps n apart i below = apart (suc i) (omega arith)

head_apart : (p : ℕ) (ps : List ℕ) (n : ℕ) → Apart (p ∷ ps) n → n ≢ p
head_apart p ps n apart same = apart 0 (omega arith) (sym same)

-- ---- homes that are cleared

pub length-cleared : (ns : List ℕ) (homes : List (Option Home)) → length (cleared ns homes) ≡ length homes
length-cleared [] homes = refl
length-cleared (n ∷ ns) homes = length-cleared ns (with_home n None homes) ∙ length-set homes n None

pub cleared_other : (ns : List ℕ) (homes : List (Option Home)) (m : ℕ) → Apart ns m → home_at (cleared ns homes) m ≡ home_at homes m
cleared_other [] homes m apart = refl
cleared_other (n ∷ ns) homes m apart =
    cleared_other ns (with_home n None homes) m (tail_apart n ns m apart) ∙ get_or-set_other homes n m None None (head_apart n ns m apart)

set_none : (homes : List (Option Home)) (n : ℕ) → home_at (with_home n None homes) n ≡ None
set_none homes n =
    ⊎_elim
    (λ inside. get_or-set_same homes n None None inside)
    (λ past. get_or_past (with_home n None homes) n None (omega (arith, length-set homes n None)))
    (cases_lt n (length homes))

none_stays : (ns : List ℕ) (homes : List (Option Home)) (m : ℕ) → home_at homes m ≡ None → home_at (cleared ns homes) m ≡ None
none_stays [] homes m none = none
none_stays (n ∷ ns) homes m none =
    none_stays ns (with_home n None homes) m
    (⊎_elim (λ same. ap (home_at (with_home n None homes)) same ∙ set_none homes n) (λ apart. get_or-set_other homes n m None None apart ∙ none) (cases_eq m n))

pub cleared_at : (ns : List ℕ) (homes : List (Option Home)) (i : ℕ) → i < length ns → home_at (cleared ns homes) (slice_index ns i) ≡ None
cleared_at [] homes i below = absurd (omega arith)
cleared_at (n ∷ ns) homes zero below = none_stays ns (with_home n None homes) n (set_none homes n)
cleared_at (n ∷ ns) homes (suc i) below = cleared_at ns (with_home n None homes) i (omega arith)

-- ---- homes that are settled

pub length-settled : (key : RingKey) (place : ℕ) (ns : List ℕ) (homes : List (Option Home)) → length (settled key place ns homes) ≡ length homes
length-settled key place [] homes = refl
length-settled key place (n ∷ ns) homes = length-settled key (place + 1) ns (with_home n (Some (home key place)) homes) ∙ length-set homes n (Some (home key place))

pub settled_other : (key : RingKey) (place : ℕ) (ns : List ℕ) (homes : List (Option Home)) (m : ℕ) → Apart ns m → home_at (settled key place ns homes) m ≡ home_at homes m
settled_other key place [] homes m apart = refl
settled_other key place (n ∷ ns) homes m apart =
    settled_other key (place + 1) ns (with_home n (Some (home key place)) homes) m (tail_apart n ns m apart)
    ∙ get_or-set_other homes n m (Some (home key place)) None (head_apart n ns m apart)

pub settled_at : (key : RingKey) (place : ℕ) (ns : List ℕ) (homes : List (Option Home)) (i : ℕ) → Differ ns → i < length ns → slice_index ns i < length homes
    → home_at (settled key place ns homes) (slice_index ns i) ≡ Some (home key (place + i))
settled_at key place [] homes i differ below inside = absurd (omega arith)
settled_at key place (n ∷ ns) homes zero differ below inside =
    settled_other key (place + 1) ns (with_home n (Some (home key place)) homes) n (first_apart n ns differ)
    ∙ get_or-set_same homes n (Some (home key place)) None inside ∙ ap (λ k. Some (home key k)) (omega arith)
settled_at key place (n ∷ ns) homes (suc i) differ below inside =
    settled_at key (place + 1) ns (with_home n (Some (home key place)) homes) i (tail_differ n ns differ) (omega arith)
    (omega (arith, inside, length-set homes n (Some (home key place))))
    ∙ ap (λ k. Some (home key k)) (omega arith)

-- ---- pages that come back

pub length-with_row : (pages : List (Option (List ℕ))) (row : List (ℕ × List ℕ)) → length (with_row pages row) ≡ length pages
length-with_row pages [] = refl
length-with_row pages (p ∷ ps) = length-with_row (slice_set pages p.0 (Some p.1)) ps ∙ length-set pages p.0 (Some p.1)

pub with_row_other : (pages : List (Option (List ℕ))) (row : List (ℕ × List ℕ)) (m : ℕ) → Apart (numbers_of row) m → page_at (with_row pages row) m ≡ page_at pages m
with_row_other pages [] m apart = refl
with_row_other pages (p ∷ ps) m apart =
    with_row_other (slice_set pages p.0 (Some p.1)) ps m (tail_apart p.0 (numbers_of ps) m apart)
    ∙ get_or-set_other pages p.0 m (Some p.1) None (head_apart p.0 (numbers_of ps) m apart)

pub with_row_at : (pages : List (Option (List ℕ))) (row : List (ℕ × List ℕ)) (i : ℕ) → Differ (numbers_of row) → i < length (numbers_of row) → slice_index (numbers_of row) i < length pages
    → page_at (with_row pages row) (slice_index (numbers_of row) i) ≡ Some (page_in row i).1
with_row_at pages [] i differ below inside = absurd (omega arith)
with_row_at pages (p ∷ ps) zero differ below inside =
    with_row_other (slice_set pages p.0 (Some p.1)) ps p.0 (first_apart p.0 (numbers_of ps) differ) ∙ get_or-set_same pages p.0 (Some p.1) None inside
with_row_at pages (p ∷ ps) (suc i) differ below inside =
    with_row_at (slice_set pages p.0 (Some p.1)) ps i (tail_differ p.0 (numbers_of ps) differ) (omega arith) (omega (arith, inside, length-set pages p.0 (Some p.1)))

abbrev pub AreWhole : List (ℕ × List ℕ) → Type 0
AreWhole row = All (λ p. length p.1 ≡ 4096) row

whole_at : (row : List (ℕ × List ℕ)) (i : ℕ) → AreWhole row → i < length row → length (page_in row i).1 ≡ 4096
whole_at row i whole below = whole i (0, []) below

-- a page of a row is a piece of its bytes
pub row_piece : (row : List (ℕ × List ℕ)) (i : ℕ) → AreWhole row → i < length row → (page_in row i).1 ≡ piece i (row_bytes row)
row_piece row i whole below =
    sym (take_all 4096 (page_in row i).1 (omega (arith, whole_at row i whole below)))
    ∙ page-row_bytes row i 0 4096 whole below (omega arith)
    ∙ ap (λ n. take 4096 (drop n (row_bytes row))) (omega arith)

pub given_at : (pages : List (Option (List ℕ))) (row : List (ℕ × List ℕ)) (i : ℕ) → AreWhole row → Differ (numbers_of row) → i < length (numbers_of row)
    → slice_index (numbers_of row) i < length pages → page_at (with_row pages row) (slice_index (numbers_of row) i) ≡ Some (piece i (row_bytes row))
given_at pages row i whole differ below inside =
    with_row_at pages row i differ below inside ∙ ap Some (row_piece row i whole (omega (arith, below, length-map row (λ (p : ℕ × List ℕ). p.0))))

-- ---- pages that are lent

pub length-without : (pages : List (Option (List ℕ))) (ns : List ℕ) → length (without pages ns) ≡ length pages
length-without pages [] = refl
length-without pages (n ∷ ns) = length-without (slice_set pages n None) ns ∙ length-set pages n None

pub without_other : (pages : List (Option (List ℕ))) (ns : List ℕ) (m : ℕ) → Apart ns m → page_at (without pages ns) m ≡ page_at pages m
without_other pages [] m apart = refl
without_other pages (n ∷ ns) m apart =
    without_other (slice_set pages n None) ns m (tail_apart n ns m apart) ∙ get_or-set_other pages n m None None (head_apart n ns m apart)

page_none : (pages : List (Option (List ℕ))) (n : ℕ) → page_at (slice_set pages n None) n ≡ None
page_none pages n =
    ⊎_elim
    (λ inside. get_or-set_same pages n None None inside)
    (λ past. get_or_past (slice_set pages n None) n None (omega (arith, length-set pages n None)))
    (cases_lt n (length pages))

page_stays : (pages : List (Option (List ℕ))) (ns : List ℕ) (m : ℕ) → page_at pages m ≡ None → page_at (without pages ns) m ≡ None
page_stays pages [] m none = none
page_stays pages (n ∷ ns) m none =
    page_stays (slice_set pages n None) ns m
    (⊎_elim (λ same. ap (page_at (slice_set pages n None)) same ∙ page_none pages n) (λ apart. get_or-set_other pages n m None None apart ∙ none) (cases_eq m n))

pub without_at : (pages : List (Option (List ℕ))) (ns : List ℕ) (i : ℕ) → i < length ns → page_at (without pages ns) (slice_index ns i) ≡ None
without_at pages [] i below = absurd (omega arith)
without_at pages (n ∷ ns) zero below = page_stays (slice_set pages n None) ns n (page_none pages n)
without_at pages (n ∷ ns) (suc i) below = without_at (slice_set pages n None) ns i (omega arith)
