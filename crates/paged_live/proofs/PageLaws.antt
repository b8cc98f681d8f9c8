-- Laws of the pages of a domain as its memory.
use Rattle.std.proofs.Common.{◌≡◌, ◌≢◌, ℕ, zero, suc, ◌+◌, ◌-◌, ◌*◌, ◌<◌, ◌≤◌, if◌then◌else◌, List, [], ◌∷◌, ◌++◌, length, take, drop, slice_index, ◌⊎◌, inl, inr, ⊎_elim, refl, sym, ap, ◌∙◌, arith, length-append, length-drop}
use Rattle.std.proofs.lemmas.Bool.{cases_eq}
use Rattle.std.proofs.lemmas.List.{append-nil, length-take-le, take_all, drop-drop, take-append-drop}
use Rattle.std.proofs.lemmas.List.Elements.{All-nil, All-cons}
use Rattle.argo_base.specs.Splice.{splice}
use Rattle.argo_base.proofs.SpliceLaws.{splice-append_left, length-splice, splice-append_right}
use Rattle.argo_model.specs.Rules.RingBytes.{ring_bytes, laid}
use Rattle.ring_core.specs.Flat.{flat, ArePages, with_page}
use Rattle.paged_live.specs.Store.{piece}
use Rattle.ring_core.proofs.TestLaws.{same_number, other_number}
use Rattle.ring_core.proofs.FlatLaws.{row_lies_flat, row_laid_flat}

-- pages that are the same are the same memory
pub flat_same : (f g : ℕ → List ℕ) (k : ℕ) → ((n : ℕ) → n < k → f n ≡ g n) → flat f k ≡ flat g k
flat_same f g zero same = refl
flat_same f g (suc k) same =
    ap (λ b. b ++ f k) (flat_same f g k (λ n less. same n (omega arith))) ∙ ap (λ b. flat g k ++ b) (same k (omega arith))

pub length-flat : (page : ℕ → List ℕ) (k : ℕ) → ArePages page k → length (flat page k) ≡ 4096 * k
length-flat page zero are = refl
length-flat page (suc k) are =
    let a = length-append (flat page k) (page k) in
    let b = length-flat page k (λ n less. are n (omega arith)) in
    let c = are k (omega arith) in
    omega arith

-- a page of the memory
pub page_in_flat : (page : ℕ → List ℕ) (k n : ℕ) → ArePages page k → n < k → take 4096 (drop (4096 * n) (flat page k)) ≡ page n
page_in_flat page k n are less =
    let h = row_lies_flat page k ((n, page n) ∷ []) are (All-cons (λ p. (p.0 < k) × (page p.0 ≡ p.1)) (n, page n) [] (less, refl) (All-nil (λ p. (p.0 < k) × (page p.0 ≡ p.1)))) in
    sym (append-nil (take 4096 (drop (4096 * n) (flat page k)))) ∙ h ∙ append-nil (page n)

-- a page replaced is a write at its place
pub flat_replaced : (page : ℕ → List ℕ) (k number : ℕ) (bytes : List ℕ) → ArePages page k → number < k → length bytes ≡ 4096
    → splice (flat page k) (4096 * number) bytes ≡ flat (with_page page number bytes) k
flat_replaced page k number bytes are less whole =
    let h = row_laid_flat page k ((number, bytes) ∷ []) are (All-cons (λ p. (p.0 < k) × (length p.1 ≡ 4096)) (number, bytes) [] (less, whole) (All-nil (λ p. (p.0 < k) × (length p.1 ≡ 4096)))) in
    let e : take 4096 (bytes ++ []) ≡ bytes = ap (take 4096) (append-nil bytes) ∙ take_all 4096 bytes (omega arith) in
    ap (splice (flat page k) (4096 * number)) (sym e) ∙ h

pub with_page_same : (page : ℕ → List ℕ) (number : ℕ) (bytes : List ℕ) (n : ℕ) → n ≡ number → with_page page number bytes n ≡ bytes
with_page_same page number bytes n same = ap (λ t. if t then bytes else page n) (same_number n number same)

pub with_page_other : (page : ℕ → List ℕ) (number : ℕ) (bytes : List ℕ) (n : ℕ) → n ≢ number → with_page page number bytes n ≡ page n
with_page_other page number bytes n other = ap (λ t. if t then bytes else page n) (other_number n number other)

-- a write inside a page
pub flat_written : (page : ℕ → List ℕ) (k number off : ℕ) (bytes : List ℕ) → ArePages page k → number < k → off + length bytes ≤ 4096
    → splice (flat page k) (4096 * number + off) bytes ≡ flat (with_page page number (splice (page number) off bytes)) k
flat_written page k number off bytes are less fit =
    let memory = flat page k in
    let long = length-flat page k are in
    let here = page_in_flat page k number are less in
    let whole : length (splice (page number) off bytes) ≡ 4096 = length-splice (page number) bytes off (omega (arith, are number less)) ∙ are number less in
    sym (written_page memory (4096 * number) 4096 off bytes fit (omega (arith, long)))
    ∙ ap (λ b. splice memory (4096 * number) (splice b off bytes)) here
    ∙ flat_replaced page k number (splice (page number) off bytes) are less whole where
      -- a part written anew with a write in it
      written_page : (xs : List ℕ) (base size off : ℕ) (zs : List ℕ) → off + length zs ≤ size → base + size ≤ length xs
          → splice xs base (splice (take size (drop base xs)) off zs) ≡ splice xs (base + off) zs
      written_page xs base size off zs fit inside =
          let ys = take size (drop base xs) in
          let l : length (take base xs) ≡ base = length-take-le base xs (omega arith) in
          let d : length (drop base xs) ≡ length xs - base = length-drop base xs in
          let t : length ys ≡ size = length-take-le size (drop base xs) (omega arith) in
          let w : length (splice ys off zs) ≡ size = length-splice ys zs off (omega arith) ∙ t in
          let rest = drop (base + size) xs in
          let whole : take base xs ++ (ys ++ rest) ≡ xs =
          ap (λ r. take base xs ++ (ys ++ r)) (sym (drop-drop size base xs)) ∙ ap (λ r. take base xs ++ r) (take-append-drop size (drop base xs)) ∙ take-append-drop base xs in
          ap (λ n. take base xs ++ (splice ys off zs ++ drop (base + n) xs)) w
          ∙ ap (λ r. take base xs ++ r) (sym (splice-append_left ys rest zs off (omega arith)))
          ∙ sym (splice-append_right (take base xs) (ys ++ rest) zs off)
          ∙ ap (λ n. splice (take base xs ++ (ys ++ rest)) (n + off) zs) l
          ∙ ap (λ x. splice x (base + off) zs) whole

-- ---- a ring's bytes

-- the bytes of a ring's pages, where these are those of its own bytes
pub own_in_flat : (page : ℕ → List ℕ) (k : ℕ) (pages own : List ℕ) → ArePages page k → length own ≡ 4096 * length pages
    → ((i : ℕ) → i < length pages → (slice_index pages i < k) × (page (slice_index pages i) ≡ piece i own)) → ring_bytes (flat page k) pages ≡ own
own_in_flat page k [] own are sized lies = sym (empty own (omega arith)) where
  empty : (xs : List ℕ) → length xs ≡ 0 → xs ≡ []
  empty [] none = refl
  empty (x ∷ xs) none = absurd (omega arith)
own_in_flat page k (p ∷ ps) own are sized lies =
    let first = lies 0 (omega arith) in
    let rest = own_in_flat page k ps (drop 4096 own) are (omega (arith, length-drop 4096 own)) (λ i below.
    let h = lies (suc i) (omega arith) in (h.0, h.1 ∙ ap (take 4096) (later own i))) in
    ap (λ b. b ++ ring_bytes (flat page k) ps) (page_in_flat page k p are first.0 ∙ first.1)
    ∙ ap (λ b. take 4096 own ++ b) rest
    ∙ take-append-drop 4096 own where
      later : (own : List ℕ) (i : ℕ) → drop (4096 * suc i) own ≡ drop (4096 * i) (drop 4096 own)
      later own i = ap (λ n. drop n own) (omega arith) ∙ sym (drop-drop (4096 * i) 4096 own)

-- ---- a ring's bytes that are laid back

pub are_still : (page : ℕ → List ℕ) (k number : ℕ) (bytes : List ℕ) → ArePages page k → length bytes ≡ 4096 → ArePages (with_page page number bytes) k
are_still page k number bytes are whole n less =
    ⊎_elim
    (λ same. ap length (with_page_same page number bytes n same) ∙ whole)
    (λ other. ap length (with_page_other page number bytes n other) ∙ are n less)
    (cases_eq n number)

-- the pages with those of a ring's own bytes
abbrev pub with_own : (ℕ → List ℕ) → List ℕ → List ℕ → ℕ → List ℕ
with_own page [] own = page
with_own page (p ∷ ps) own = with_own (with_page page p (take 4096 own)) ps (drop 4096 own)

pub laid_flat : (page : ℕ → List ℕ) (k : ℕ) (pages own : List ℕ) → ArePages page k → length own ≡ 4096 * length pages
    → ((i : ℕ) → i < length pages → slice_index pages i < k) → laid pages own (flat page k) ≡ flat (with_own page pages own) k
laid_flat page k [] own are sized inside = refl
laid_flat page k (p ∷ ps) own are sized inside =
    let whole : length (take 4096 own) ≡ 4096 = length-take-le 4096 own (omega arith) in
    ap (laid ps (drop 4096 own)) (flat_replaced page k p (take 4096 own) are (inside 0 (omega arith)) whole)
    ∙ laid_flat (with_page page p (take 4096 own)) k ps (drop 4096 own) (are_still page k p (take 4096 own) are whole) (omega (arith, length-drop 4096 own))
    (λ i below. inside (suc i) (omega arith))

pub with_own_other : (page : ℕ → List ℕ) (pages own : List ℕ) (n : ℕ) → ((i : ℕ) → i < length pages → slice_index pages i ≢ n) → with_own page pages own n ≡ page n
with_own_other page [] own n apart = refl
with_own_other page (p ∷ ps) own n apart =
    with_own_other (with_page page p (take 4096 own)) ps (drop 4096 own) n (λ i below. apart (suc i) (omega arith))
    ∙ with_page_other page p (take 4096 own) n (λ same. apart 0 (omega arith) (sym same))

-- no page stands at two places of a list
abbrev pub Differ : List ℕ → Type 0
Differ pages = (i j : ℕ) → i < length pages → j < length pages → slice_index pages i ≡ slice_index pages j → i ≡ j

pub piece_later : (own : List ℕ) (i : ℕ) → piece i (drop 4096 own) ≡ piece (suc i) own
piece_later own i = ap (take 4096) (drop-drop (4096 * i) 4096 own ∙ ap (λ n. drop n own) (omega arith))

pub with_own_at : (page : ℕ → List ℕ) (pages own : List ℕ) (i : ℕ) → Differ pages → i < length pages → with_own page pages own (slice_index pages i) ≡ piece i own
with_own_at page [] own i differ below = absurd (omega arith)
with_own_at page (p ∷ ps) own zero differ below =
    with_own_other (with_page page p (take 4096 own)) ps (drop 4096 own) p
    (λ i later same. let e : suc i ≡ 0 = differ (suc i) 0 (omega arith) (omega arith) same in omega arith)
    ∙ with_page_same page p (take 4096 own) p refl
with_own_at page (p ∷ ps) own (suc i) differ below =
    with_own_at (with_page page p (take 4096 own)) ps (drop 4096 own) i
    (λ a b la lb same. let e : suc a ≡ suc b = differ (suc a) (suc b) (omega arith) (omega arith) same in omega arith) (omega arith)
    ∙ piece_later own i

-- a number stands in a list, or it does not
pub record At (pages : List ℕ) (n : ℕ) : Type 0 where
  pub place : ℕ
  pub below : place < length pages
  pub is : slice_index pages place ≡ n

pub at_or_not : (pages : List ℕ) (n : ℕ) → At pages n ⊎ ((i : ℕ) → i < length pages → slice_index pages i ≢ n)
at_or_not [] n = inr (λ i below _. omega arith)
at_or_not (p ∷ ps) n =
    ⊎_elim
    (λ same. inl (record { place = 0; below = omega arith; is = same }))
    (λ other. ⊎_elim
    (λ (a : At ps n). let below = a.below in inl (record { place = suc a.place; below = omega arith; is = a.is }))
    (λ none. inr (not_either p ps n other none))
    (at_or_not ps n))
    (cases_eq p n) where
      not_either : (p : ℕ) (ps : List ℕ) (n : ℕ) → p ≢ n → ((i : ℕ) → i < length ps → slice_index ps i ≢ n) → (i : ℕ) → i < length (p ∷ ps) → slice_index (p ∷ ps) i ≢ n
      not_either p ps n other none zero below = other
      not_either p ps n other none (suc i) below = none i (omega arith)
