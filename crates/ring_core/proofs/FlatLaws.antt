-- Laws of the pages of a ring in the flat memory of their owner.
use Rattle.std.proofs.Common.{◌≡◌, ◌≢◌, ℕ, zero, suc, ◌+◌, ◌*◌, ◌<◌, ◌≤◌, if◌then◌else◌, List, [], ◌∷◌, ◌++◌, length, take, drop, ⊎_elim, refl, sym, ap, ◌∙◌, arith, length-append, length-drop}
use Rattle.std.specs.List.{All}
use Rattle.std.proofs.lemmas.Bool.{cases_eq}
use Rattle.std.proofs.lemmas.List.{append-nil, take_all, drop_all, take_at, drop_at, take-append-le, drop-append-le}
use Rattle.std.proofs.lemmas.List.Elements.{All-head, All-tail}
use Rattle.argo_base.specs.Splice.{splice}
use Rattle.argo_base.proofs.SpliceLaws.{splice-append_left, splice-append_right}
use Rattle.argo_model.specs.Rules.RingBytes.{ring_bytes, laid}
use Rattle.guest_pages.specs.Rows.{numbers_of, row_bytes}
use Rattle.ring_core.specs.Flat.{flat, ArePages, with_page, with_pages}
use Rattle.ring_core.proofs.TestLaws.{same_number, other_number}

below : (page : ℕ → List ℕ) (k : ℕ) → ArePages page (suc k) → ArePages page k
below page k are n less = are n (omega arith)

length-flat : (page : ℕ → List ℕ) (k : ℕ) → ArePages page k → length (flat page k) ≡ 4096 * k
length-flat page zero are = refl
length-flat page (suc k) are =
    let a = length-append (flat page k) (page k) in
    let b = length-flat page k (below page k are) in
    let c = are k (omega arith) in
    omega arith

-- ---- what is read

-- a page of the flat memory
page_in_flat : (page : ℕ → List ℕ) (k n : ℕ) → ArePages page k → n < k → take 4096 (drop (4096 * n) (flat page k)) ≡ page n
page_in_flat page zero n are less = absurd (omega arith)
page_in_flat page (suc k) n are less =
    let l = length-flat page k (below page k are) in
    let last = are k (omega arith) in
    ⊎_elim
    (λ same.
    ap (λ m. take 4096 (drop (4096 * m) (flat page k ++ page k))) same
    ∙ ap (take 4096) (drop_at (flat page k) (page k) (4096 * k) l)
    ∙ take_all 4096 (page k) (omega arith)
    ∙ ap page (sym same))
    (λ other.
    let inside : 4096 * n + 4096 ≤ length (flat page k) = omega arith in
    ap (take 4096) (drop-append-le (4096 * n) (flat page k) (page k) (omega arith))
    ∙ take-append-le 4096 (drop (4096 * n) (flat page k)) (page k) (omega (arith, length-drop (4096 * n) (flat page k)))
    ∙ page_in_flat page k n (below page k are) (omega arith))
    (cases_eq n k)

abbrev Lies : (ℕ → List ℕ) → ℕ → ℕ × List ℕ → Type 0
Lies page k p = (p.0 < k) × (page p.0 ≡ p.1)

-- a ring's bytes there are those of its pages
pub row_lies_flat : (page : ℕ → List ℕ) (k : ℕ) (row : List (ℕ × List ℕ)) → ArePages page k → All (λ p. (p.0 < k) × (page p.0 ≡ p.1)) row
    → ring_bytes (flat page k) (numbers_of row) ≡ row_bytes row
row_lies_flat page k [] are lies = refl
row_lies_flat page k (p ∷ ps) are lies =
    let here = All-head (Lies page k) p ps lies in
    let rest = row_lies_flat page k ps are (All-tail (Lies page k) p ps lies) in
    ap (λ b. b ++ ring_bytes (flat page k) (numbers_of ps)) (page_in_flat page k p.0 are here.0 ∙ here.1)
    ∙ ap (λ b. p.1 ++ b) rest

-- ---- what is written

chosen_same : (page : ℕ → List ℕ) (number : ℕ) (bytes : List ℕ) (n : ℕ) → n ≡ number → with_page page number bytes n ≡ bytes
chosen_same page number bytes n same = ap (λ t. if t then bytes else page n) (same_number n number same)

chosen_other : (page : ℕ → List ℕ) (number : ℕ) (bytes : List ℕ) (n : ℕ) → n ≢ number → with_page page number bytes n ≡ page n
chosen_other page number bytes n other = ap (λ t. if t then bytes else page n) (other_number n number other)

are_still : (page : ℕ → List ℕ) (k number : ℕ) (bytes : List ℕ) → ArePages page k → length bytes ≡ 4096 → ArePages (with_page page number bytes) k
are_still page k number bytes are whole n less =
    ⊎_elim
    (λ same. ap length (chosen_same page number bytes n same) ∙ whole)
    (λ other. ap length (chosen_other page number bytes n other) ∙ are n less)
    (cases_eq n number)

-- a page that is none of them
flat_beside : (page : ℕ → List ℕ) (k number : ℕ) (bytes : List ℕ) → k ≤ number → flat (with_page page number bytes) k ≡ flat page k
flat_beside page zero number bytes above = refl
flat_beside page (suc k) number bytes above =
    ap (λ b. b ++ with_page page number bytes k) (flat_beside page k number bytes (omega arith))
    ∙ ap (λ b. flat page k ++ b) (chosen_other page number bytes k (λ same. omega arith))

over_all : (xs bytes : List ℕ) → length bytes ≡ length xs → splice xs 0 bytes ≡ bytes
over_all xs bytes same =
    let e : 0 + length bytes ≡ length xs = omega arith in
    ap (λ r. bytes ++ r) (drop_all (0 + length bytes) xs (omega arith)) ∙ append-nil bytes

-- a page replaced is a write at its place
flat_replaced : (page : ℕ → List ℕ) (k number : ℕ) (bytes : List ℕ) → ArePages page k → number < k → length bytes ≡ 4096
    → splice (flat page k) (4096 * number) bytes ≡ flat (with_page page number bytes) k
flat_replaced page zero number bytes are less whole = absurd (omega arith)
flat_replaced page (suc k) number bytes are less whole =
    let l = length-flat page k (below page k are) in
    let last = are k (omega arith) in
    ⊎_elim
    (λ same.
    let at : 4096 * number ≡ length (flat page k) + 0 = omega arith in
    ap (λ a. splice (flat page k ++ page k) a bytes) at
    ∙ splice-append_right (flat page k) (page k) bytes 0
    ∙ ap (λ b. flat page k ++ b) (over_all (page k) bytes (omega arith) ∙ sym (chosen_same page number bytes k (sym same)))
    ∙ ap (λ b. b ++ with_page page number bytes k) (sym (flat_beside page k number bytes (omega arith))))
    (λ other.
    splice-append_left (flat page k) (page k) bytes (4096 * number) (omega arith)
    ∙ ap (λ b. b ++ page k) (flat_replaced page k number bytes (below page k are) (omega arith) whole)
    ∙ ap (λ b. flat (with_page page number bytes) k ++ b) (sym (chosen_other page number bytes k (λ same. other (sym same)))))
    (cases_eq number k)

abbrev Stands : ℕ → ℕ × List ℕ → Type 0
Stands k p = (p.0 < k) × (length p.1 ≡ 4096)

-- a ring's bytes laid back there are its pages replaced
pub row_laid_flat : (page : ℕ → List ℕ) (k : ℕ) (row : List (ℕ × List ℕ)) → ArePages page k → All (λ p. (p.0 < k) × (length p.1 ≡ 4096)) row
    → laid (numbers_of row) (row_bytes row) (flat page k) ≡ flat (with_pages page row) k
row_laid_flat page k [] are stand = refl
row_laid_flat page k (p ∷ ps) are stand =
    let here = All-head (Stands k) p ps stand in
    let whole = here.1 in
    ap (λ b. laid (numbers_of ps) (drop 4096 (p.1 ++ row_bytes ps)) (splice (flat page k) (4096 * p.0) b)) (take_at p.1 (row_bytes ps) 4096 whole)
    ∙ ap (λ b. laid (numbers_of ps) b (splice (flat page k) (4096 * p.0) p.1)) (drop_at p.1 (row_bytes ps) 4096 whole)
    ∙ ap (laid (numbers_of ps) (row_bytes ps)) (flat_replaced page k p.0 p.1 are here.0 whole)
    ∙ row_laid_flat (with_page page p.0 p.1) k ps (are_still page k p.0 p.1 are whole) (All-tail (Stands k) p ps stand)
