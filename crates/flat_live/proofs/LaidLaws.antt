-- Laws of a ring's bytes that are laid back into its owner's memory.
use Rattle.std.proofs.Common.{◌≡◌, ◌≢◌, ℕ, zero, suc, ◌+◌, ◌*◌, ◌/◌, ◌%◌, ◌<◌, ◌≤◌, min, Bool, true, false, ◌||◌, ◌==◌, nat_lt, IsTrue, List, [], ◌∷◌, ◌++◌, length, take, drop, slice_index, ⊎_elim, refl, sym, ap, ◌∙◌, subst, arith, length-append, length-take, length-drop}
use Rattle.std.specs.Prelude.{not}
use Rattle.std.proofs.lemmas.List.{length-take-le, take_all, drop_all, take_at, drop_at, drop-drop, take-append-drop}
use Rattle.std.proofs.lemmas.Bool.{cases_lt, cases_order, false≢true}
use Rattle.std.proofs.lemmas.Bool.Decides.{nat_tests}
use Rattle.argo_base.specs.Splice.{splice}
use Rattle.argo_base.proofs.SpliceLaws.{splice-nil, splice-append_left, splice-append_right, length-splice, take-splice_before, drop-splice_after, part-splice, splice-splice}
use Rattle.argo_model.specs.Rules.Register.{has_number, all_differ}
use Rattle.argo_model.specs.Rules.RingBytes.{ring_bytes, laid}
use Rattle.live_domain.proofs.TestLaws.{both}
use Rattle.flat_live.specs.Memory.{are_there, IsLaid, Writes, WritesOn}

neither : (x y : Bool) → IsTrue (not (x || y)) → IsTrue (not x) × IsTrue (not y)
neither false y h = (refl, h)
neither true y h = absurd (false≢true h)

-- ---- two writes over parts of a list

module _ {A : Type 0} where
  -- a part of a list written over itself
  pub splice-back : (xs : List A) (at n : ℕ) → at + n ≤ length xs → splice xs at (take n (drop at xs)) ≡ xs
  splice-back xs at n inside =
      let l : length (take n (drop at xs)) ≡ n = length-take-le n (drop at xs) (omega (arith, length-drop at xs)) in
      let d : drop (at + length (take n (drop at xs))) xs ≡ drop n (drop at xs) = ap (λ k. drop (at + k) xs) l ∙ sym (drop-drop n at xs) in
      ap (λ r. take at xs ++ (take n (drop at xs) ++ r)) d
      ∙ ap (λ r. take at xs ++ r) (take-append-drop n (drop at xs))
      ∙ take-append-drop at xs

  -- a write inside the first of two lists, and one at the start of the second
  apart : (xs ys zs ws : List A) (at : ℕ) → at + length zs ≤ length xs
      → splice (splice (xs ++ ys) at zs) (length xs + 0) ws ≡ splice (splice (xs ++ ys) (length xs + 0) ws) at zs
  apart xs ys zs ws at inside =
      let l : length (splice xs at zs) ≡ length xs = length-splice xs zs at inside in
      ap (λ r. splice r (length xs + 0) ws) (splice-append_left xs ys zs at inside)
      ∙ ap (λ k. splice (splice xs at zs ++ ys) (k + 0) ws) (sym l)
      ∙ splice-append_right (splice xs at zs) ys ws 0
      ∙ sym (splice-append_left xs (splice ys 0 ws) zs at inside)
      ∙ ap (λ r. splice r at zs) (sym (splice-append_right xs ys ws 0))

  -- writes of different places change nothing by their order
  pub splice-apart : (xs zs ws : List A) (at later : ℕ) → at + length zs ≤ later → later ≤ length xs
      → splice (splice xs at zs) later ws ≡ splice (splice xs later ws) at zs
  splice-apart xs zs ws at later behind inside =
      let l : length (take later xs) ≡ later = length-take-le later xs inside in
      let k : length (take later xs) + 0 ≡ later = omega arith in
      let whole = take-append-drop later xs in
      let h = apart (take later xs) (drop later xs) zs ws at (omega arith) in
      subst (λ x. splice (splice x at zs) later ws ≡ splice (splice x later ws) at zs) whole
      (subst (λ n. splice (splice (take later xs ++ drop later xs) at zs) n ws ≡ splice (splice (take later xs ++ drop later xs) n ws) at zs) k h)

  -- a write inside what was written
  pub splice-within : (xs ys zs : List A) (at off : ℕ) → at + length ys ≤ length xs → off + length zs ≤ length ys
      → splice (splice xs at ys) (at + off) zs ≡ splice xs at (splice ys off zs)
  splice-within xs ys zs at off inside fit =
      let l : length (take at xs) ≡ at = length-take-le at xs (omega arith) in
      let rest = drop (at + length ys) xs in
      let n : length (splice ys off zs) ≡ length ys = length-splice ys zs off fit in
      ap (λ k. splice (splice xs at ys) (k + off) zs) (sym l)
      ∙ splice-append_right (take at xs) (ys ++ rest) zs off
      ∙ ap (λ r. take at xs ++ r) (splice-append_left ys rest zs off fit)
      ∙ ap (λ k. take at xs ++ (splice ys off zs ++ drop (at + k) xs)) (sym n)

  -- a write behind the first part of a list
  drop-splice_on : (xs zs : List A) (n at : ℕ) → n ≤ length xs → drop n (splice xs (n + at) zs) ≡ splice (drop n xs) at zs
  drop-splice_on xs zs n at inside =
      let l : length (take n xs) ≡ n = length-take-le n xs inside in
      ap (λ x. drop n (splice x (n + at) zs)) (sym (take-append-drop n xs))
      ∙ ap (λ k. drop n (splice (take n xs ++ drop n xs) (k + at) zs)) (sym l)
      ∙ ap (drop n) (splice-append_right (take n xs) (drop n xs) zs at)
      ∙ drop_at (take n xs) (splice (drop n xs) at zs) n l

-- ---- pages

there_first : (count p : ℕ) → IsTrue (nat_lt p count) → p < count
there_first count p h = grind (arith, nat_tests)

not_same : (p q : ℕ) → IsTrue (not (p == q)) → p ≢ q
not_same p q test same = grind (arith, nat_tests)

pub there_at : (count : ℕ) (pages : List ℕ) (i : ℕ) → IsTrue (are_there count pages) → i < length pages → slice_index pages i < count
there_at count [] i there below = absurd (omega arith)
there_at count (p ∷ ps) zero there below = there_first count p (both (nat_lt p count) (are_there count ps) there).0
there_at count (p ∷ ps) (suc i) there below = there_at count ps i (both (nat_lt p count) (are_there count ps) there).1 (omega arith)

has_number-at : (pages : List ℕ) (i p : ℕ) → i < length pages → IsTrue (not (has_number pages p)) → slice_index pages i ≢ p
has_number-at [] i p below none same = omega arith
has_number-at (x ∷ xs) zero p below none same = not_same x p (neither (x == p) (has_number xs p) none).0 same
has_number-at (x ∷ xs) (suc i) p below none same = has_number-at xs i p (omega arith) (neither (x == p) (has_number xs p) none).1 same

-- ---- what is laid back

abbrev There : List ℕ → List ℕ → Type 0
There memory pages = IsTrue (are_there (length memory / 4096) pages)

abbrev part : List ℕ → List ℕ
part own = take 4096 own

there_again : (memory new pages : List ℕ) → length new ≡ length memory → There memory pages → There new pages
there_again memory new pages same there = subst (λ n. IsTrue (are_there (n / 4096) pages)) (sym same) there

-- one page written, as long as before
length-page : (memory own : List ℕ) (p : ℕ) → p < length memory / 4096 → length (splice memory (4096 * p) (part own)) ≡ length memory
length-page memory own p below = length-splice memory (part own) (4096 * p) (omega (arith, length-take 4096 own))

-- the memory stays as long
pub length-laid : (pages own memory : List ℕ) → There memory pages → length (laid pages own memory) ≡ length memory
length-laid [] own memory there = refl
length-laid (p ∷ ps) own memory there =
    let h = both (nat_lt p (length memory / 4096)) (are_there (length memory / 4096) ps) there in
    let next = splice memory (4096 * p) (part own) in
    let same = length-page memory own p (there_first (length memory / 4096) p h.0) in
    length-laid ps (drop 4096 own) next (there_again memory next ps same h.1) ∙ same

-- a write into a page that is none of the ring's
elsewhere : (pages own memory zs : List ℕ) (p off : ℕ) → There memory pages → p < length memory / 4096 → IsTrue (not (has_number pages p)) → off + length zs ≤ 4096
    → splice (laid pages own memory) (4096 * p + off) zs ≡ laid pages own (splice memory (4096 * p + off) zs)
elsewhere [] own memory zs p off there below none fit = refl
elsewhere (q ∷ qs) own memory zs p off there below none fit =
    let h = both (nat_lt q (length memory / 4096)) (are_there (length memory / 4096) qs) there in
    let n = neither (q == p) (has_number qs p) none in
    let differ = not_same q p n.0 in
    let q_below = there_first (length memory / 4096) q h.0 in
    let next = splice memory (4096 * q) (part own) in
    let same = length-page memory own q q_below in
    let size : length (part own) ≤ 4096 = omega (arith, length-take 4096 own) in
    let go = elsewhere qs (drop 4096 own) next zs p off (there_again memory next qs same h.1) (subst (λ n. p < n / 4096) (sym same) below) n.1 fit in
    let swap : splice next (4096 * p + off) zs ≡ splice (splice memory (4096 * p + off) zs) (4096 * q) (part own) =
    ⊎_elim (λ e. absurd (differ e))
    (⊎_elim (λ less. splice-apart memory (part own) zs (4096 * q) (4096 * p + off) (omega arith) (omega arith))
    (λ more. sym (splice-apart memory zs (part own) (4096 * p + off) (4096 * q) (omega arith) (omega arith))))
    (cases_order q p) in
    go ∙ ap (laid qs (drop 4096 own)) swap

-- a write into one of the ring's pages is a write into its bytes
pub written : (pages own memory zs : List ℕ) (i off : ℕ) → length own ≡ 4096 * length pages → There memory pages → IsTrue (all_differ pages)
    → i < length pages → off + length zs ≤ 4096
    → splice (laid pages own memory) (4096 * slice_index pages i + off) zs ≡ laid pages (splice own (4096 * i + off) zs) memory
written [] own memory zs i off sized there differ below fit = absurd (omega arith)
written (p ∷ ps) own memory zs zero off sized there differ below fit =
    let h = both (nat_lt p (length memory / 4096)) (are_there (length memory / 4096) ps) there in
    let n = both (not (has_number ps p)) (all_differ ps) differ in
    let p_below = there_first (length memory / 4096) p h.0 in
    let next = splice memory (4096 * p) (part own) in
    let same = length-page memory own p p_below in
    let size : length (part own) ≡ 4096 = length-take-le 4096 own (omega arith) in
    let o : 4096 * 0 + off ≡ off = omega arith in
    let go = elsewhere ps (drop 4096 own) next zs p off (there_again memory next ps same h.1) (subst (λ n. p < n / 4096) (sym same) p_below) n.0 fit in
    let inner = splice-within memory (part own) zs (4096 * p) off (omega arith) (omega arith) in
    let first : part (splice own off zs) ≡ splice (part own) off zs =
    let z : 0 + off ≡ off = omega arith in
    ap (λ k. take 4096 (splice own k zs)) (sym z) ∙ part-splice own zs 0 4096 off fit (omega arith) in
    let rest : drop 4096 (splice own off zs) ≡ drop 4096 own = drop-splice_after own zs off 4096 fit (omega arith) in
    go ∙ ap (laid ps (drop 4096 own)) (inner ∙ ap (splice memory (4096 * p)) (sym first))
    ∙ ap (λ r. laid ps r (splice memory (4096 * p) (part (splice own off zs)))) (sym rest)
    ∙ ap (λ k. laid (p ∷ ps) (splice own k zs) memory) (sym o)
written (p ∷ ps) own memory zs (suc i) off sized there differ below fit =
    let h = both (nat_lt p (length memory / 4096)) (are_there (length memory / 4096) ps) there in
    let n = both (not (has_number ps p)) (all_differ ps) differ in
    let next = splice memory (4096 * p) (part own) in
    let same = length-page memory own p (there_first (length memory / 4096) p h.0) in
    let o : 4096 * suc i + off ≡ 4096 + (4096 * i + off) = omega arith in
    let go = written ps (drop 4096 own) next zs i off (omega (arith, length-drop 4096 own)) (there_again memory next ps same h.1) n.1 (omega arith) fit in
    let first : part (splice own (4096 + (4096 * i + off)) zs) ≡ part own = take-splice_before own zs (4096 + (4096 * i + off)) 0 4096 (omega arith) (omega arith) in
    let rest : drop 4096 (splice own (4096 + (4096 * i + off)) zs) ≡ splice (drop 4096 own) (4096 * i + off) zs = drop-splice_on own zs 4096 (4096 * i + off) (omega arith) in
    go ∙ ap (λ r. laid ps r next) (sym rest)
    ∙ ap (λ r. laid ps (drop 4096 (splice own (4096 + (4096 * i + off)) zs)) (splice memory (4096 * p) r)) (sym first)
    ∙ ap (λ k. laid (p ∷ ps) (splice own k zs) memory) (sym o)

-- ---- the bytes of a ring

abbrev page_bytes : List ℕ → ℕ → List ℕ
page_bytes memory p = take 4096 (drop (4096 * p) memory)

length-page_bytes : (memory : List ℕ) (p : ℕ) → p < length memory / 4096 → length (page_bytes memory p) ≡ 4096
length-page_bytes memory p below = length-take-le 4096 (drop (4096 * p) memory) (omega (arith, length-drop (4096 * p) memory))

pub length-ring_bytes : (memory pages : List ℕ) → There memory pages → length (ring_bytes memory pages) ≡ 4096 * length pages
length-ring_bytes memory [] there = refl
length-ring_bytes memory (p ∷ ps) there =
    let h = both (nat_lt p (length memory / 4096)) (are_there (length memory / 4096) ps) there in
    let a = length-append (page_bytes memory p) (ring_bytes memory ps) in
    let b = length-page_bytes memory p (there_first (length memory / 4096) p h.0) in
    let c = length-ring_bytes memory ps h.1 in
    omega arith

-- laid back as they are they change nothing
pub laid_own : (memory pages : List ℕ) → There memory pages → laid pages (ring_bytes memory pages) memory ≡ memory
laid_own memory [] there = refl
laid_own memory (p ∷ ps) there =
    let h = both (nat_lt p (length memory / 4096)) (are_there (length memory / 4096) ps) there in
    let below = there_first (length memory / 4096) p h.0 in
    let size = length-page_bytes memory p below in
    let first : part (page_bytes memory p ++ ring_bytes memory ps) ≡ page_bytes memory p = take_at (page_bytes memory p) (ring_bytes memory ps) 4096 size in
    let rest : drop 4096 (page_bytes memory p ++ ring_bytes memory ps) ≡ ring_bytes memory ps = drop_at (page_bytes memory p) (ring_bytes memory ps) 4096 size in
    let back : splice memory (4096 * p) (page_bytes memory p) ≡ memory = splice-back memory (4096 * p) 4096 (omega arith) in
    ap (λ x. laid ps (drop 4096 (page_bytes memory p ++ ring_bytes memory ps)) (splice memory (4096 * p) x)) first
    ∙ ap (λ x. laid ps x (splice memory (4096 * p) (page_bytes memory p))) rest
    ∙ ap (laid ps (ring_bytes memory ps)) back
    ∙ laid_own memory ps h.1

-- so a memory is itself with the ring's bytes laid back
pub laid_here : (memory pages : List ℕ) → There memory pages → IsTrue (all_differ pages) → IsLaid pages memory (ring_bytes memory pages) memory
laid_here memory pages there differ =
    record { sized = length-ring_bytes memory pages there; inside = there; differ = differ; same = sym (laid_own memory pages there) }

-- and a write into the ring is laid back
pub laid_back : (memory new pages : List ℕ) (change : List ℕ → List ℕ) → There memory pages → IsTrue (all_differ pages) → Writes pages change memory new
    → new ≡ laid pages (change (ring_bytes memory pages)) memory
laid_back memory new pages change there differ writes = (writes memory (ring_bytes memory pages) (laid_here memory pages there differ)).same

-- ---- a write, piece by piece

pub none_left : {A : Type 0} (xs : List A) → length xs ≡ 0 → xs ≡ []
none_left [] none = refl
none_left (x ∷ xs) none = absurd (omega arith)

-- so many of a list, where there may be fewer
pub take-min : {A : Type 0} (n : ℕ) (xs : List A) → take (min (length xs) n) xs ≡ take n xs
take-min n xs = ⊎_elim (λ short. ap (λ k. take k xs) (omega arith)) (λ long. take_all (min (length xs) n) xs (omega arith) ∙ sym (take_all n xs (omega arith))) (cases_lt n (length xs))

pub drop-min : {A : Type 0} (n : ℕ) (xs : List A) → drop (min (length xs) n) xs ≡ drop n xs
drop-min n xs = ⊎_elim (λ short. ap (λ k. drop k xs) (omega arith)) (λ long. drop_all (min (length xs) n) xs (omega arith) ∙ sym (drop_all n xs (omega arith))) (cases_lt n (length xs))

-- nothing is written yet
pub writes_none : (pages base own memory : List ℕ) (at : ℕ) (bytes : List ℕ) → IsLaid pages base own memory → WritesOn pages base own memory at bytes at bytes
writes_none pages base own memory at bytes h = record { own = own; laid_so = h; whole = refl }

-- all is written
pub writes_all : (pages base first memory : List ℕ) (at : ℕ) (bytes : List ℕ) (place : ℕ) (rest : List ℕ) → rest ≡ []
    → WritesOn pages base first memory at bytes place rest → IsLaid pages base (splice first at bytes) memory
writes_all pages base first memory at bytes place rest none h =
    let same : h.own ≡ splice first at bytes = sym (splice-nil h.own place) ∙ ap (splice h.own place) (sym none) ∙ h.whole in
    subst (λ own. IsLaid pages base own memory) same h.laid_so

-- a piece more is written, into the page at its place
pub writes_more : (pages base first memory : List ℕ) (at : ℕ) (bytes : List ℕ) (place : ℕ) (rest piece later : List ℕ)
    → place + length rest ≤ 4096 * length pages → rest ≡ piece ++ later → place % 4096 + length piece ≤ 4096 → place / 4096 < length pages
    → WritesOn pages base first memory at bytes place rest
    → WritesOn pages base first (splice memory (4096 * slice_index pages (place / 4096) + place % 4096) piece) at bytes (place + length piece) later
writes_more pages base first memory at bytes place rest piece later within parts fit below h =
    let i = place / 4096 in
    let off = place % 4096 in
    let l = h.laid_so in
    let at_place : 4096 * i + off ≡ place = omega arith in
    let size : length rest ≡ length piece + length later = ap length parts ∙ length-append piece later in
    let in_ring : place + length piece ≤ length h.own = let s = l.sized in omega arith in
    let one = written pages h.own base piece i off l.sized l.inside l.differ below fit in
    record {
      own = splice h.own place piece;
      laid_so = record {
        sized = length-splice h.own piece place in_ring ∙ l.sized;
        inside = l.inside;
        differ = l.differ;
        same = ap (λ m. splice m (4096 * slice_index pages i + off) piece) l.same ∙ one ∙ ap (λ k. laid pages (splice h.own k piece) base) at_place;
      };
      whole = splice-splice h.own piece later place in_ring ∙ ap (splice h.own place) (sym parts) ∙ h.whole;
    }

-- the page of a place of the ring is there
pub page_there : (count place : ℕ) (pages : List ℕ) → IsTrue (are_there count pages) → place < 4096 * length pages → slice_index pages (place / 4096) < count
page_there count place pages there below = there_at count pages (place / 4096) there (omega arith)
