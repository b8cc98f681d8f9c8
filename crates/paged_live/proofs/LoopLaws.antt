-- Laws of homes that are set one after another.
use Rattle.std.proofs.Common.{◌≡◌, ℕ, ◌≢◌, zero, suc, ◌+◌, ◌<◌, false, List, [], ◌∷◌, length, drop, slice_index, Option, Some, None, refl, sym, ap, ◌∙◌, arith}
use Rattle.std.proofs.lemmas.List.{get_or-map, drop_all}
use Rattle.std.specs.Prelude.{◌&&◌}
use Rattle.std.specs.Str.{bytes_eq}
use Rattle.argo_base.specs.declared.ring_key.RingKey.{RingKey}
use Rattle.guest_pages.specs.Rows.{numbers_of, page_in}
use Rattle.ring_core.proofs.TestLaws.{same_number, other_number}
use Rattle.paged_live.specs.declared.home.Home.{Home}
use Rattle.paged_live.specs.Homes.{home, with_home, settled, cleared}

drop_next : (xs : List ℕ) (k : ℕ) → k < length xs → drop k xs ≡ slice_index xs k ∷ drop (k + 1) xs
drop_next [] k below = absurd (omega arith)
drop_next (x ∷ xs) zero below = refl
drop_next (x ∷ xs) (suc k) below =
    let e : suc (k + 1) ≡ suc k + 1 = omega arith in
    drop_next xs k (omega arith) ∙ ap (λ n. slice_index xs k ∷ drop n (x ∷ xs)) e

-- one more is settled
pub settle_next : (key : RingKey) (ns : List ℕ) (homes : List (Option Home)) (k n : ℕ) → k < length ns → n ≡ slice_index ns k
    → settled key k (drop k ns) homes ≡ settled key (k + 1) (drop (k + 1) ns) (with_home n (Some (home key k)) homes)
settle_next key ns homes k n below is =
    ap (λ xs. settled key k xs homes) (drop_next ns k below) ∙ ap (λ m. settled key (k + 1) (drop (k + 1) ns) (with_home m (Some (home key k)) homes)) (sym is)

pub settle_done : (key : RingKey) (ns : List ℕ) (homes : List (Option Home)) (k : ℕ) → length ns < k + 1 → settled key k (drop k ns) homes ≡ homes
settle_done key ns homes k past = ap (λ xs. settled key k xs homes) (drop_all k ns (omega arith))

-- one more is cleared
pub clear_next : (ns : List ℕ) (homes : List (Option Home)) (k n : ℕ) → k < length ns → n ≡ slice_index ns k
    → cleared (drop k ns) homes ≡ cleared (drop (k + 1) ns) (with_home n None homes)
clear_next ns homes k n below is =
    ap (λ xs. cleared xs homes) (drop_next ns k below) ∙ ap (λ m. cleared (drop (k + 1) ns) (with_home m None homes)) (sym is)

pub clear_done : (ns : List ℕ) (homes : List (Option Home)) (k : ℕ) → length ns < k + 1 → cleared (drop k ns) homes ≡ homes
clear_done ns homes k past = ap (λ xs. cleared xs homes) (drop_all k ns (omega arith))

-- the number of a page of a row
pub number_of : (row : List (ℕ × List ℕ)) (k : ℕ) → k < length row → (page_in row k).0 ≡ slice_index (numbers_of row) k
number_of row k below = sym (get_or-map (λ (p : ℕ × List ℕ). p.0) row k (0, []) 0 below)

-- two lists of numbers are alike from a place on where they are alike at it, and from the next one on
pub drops_same : (xs ys : List ℕ) (k : ℕ) → k < length xs → k < length ys → slice_index xs k ≡ slice_index ys k
    → bytes_eq (drop k xs) (drop k ys) ≡ bytes_eq (drop (k + 1) xs) (drop (k + 1) ys)
drops_same xs ys k below too same =
    ap (λ zs. bytes_eq zs (drop k ys)) (drop_next xs k below)
    ∙ ap (bytes_eq (slice_index xs k ∷ drop (k + 1) xs)) (drop_next ys k too)
    ∙ ap (λ b. b && bytes_eq (drop (k + 1) xs) (drop (k + 1) ys)) (same_number (slice_index xs k) (slice_index ys k) same)

pub drops_other : (xs ys : List ℕ) (k : ℕ) → k < length xs → k < length ys → slice_index xs k ≢ slice_index ys k → bytes_eq (drop k xs) (drop k ys) ≡ false
drops_other xs ys k below too other =
    ap (λ zs. bytes_eq zs (drop k ys)) (drop_next xs k below)
    ∙ ap (bytes_eq (slice_index xs k ∷ drop (k + 1) xs)) (drop_next ys k too)
    ∙ ap (λ b. b && bytes_eq (drop (k + 1) xs) (drop (k + 1) ys)) (other_number (slice_index xs k) (slice_index ys k) other)
