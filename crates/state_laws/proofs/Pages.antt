-- Laws of the bytes of a ring in its owner's memory: what a write into a page, and a ring laid back, leave of them.
use Rattle.std.proofs.Common.{◌≡◌, ◌≢◌, ℕ, suc, ◌+◌, ◌*◌, ◌/◌, ◌<◌, ◌≤◌, Bool, true, false, ◌||◌, ◌==◌, not, cond, nat_lt, IsTrue, List, [], ◌∷◌, ◌++◌, length, take, drop, Some, None, option_map, ⊎_elim, refl, sym, ap, ◌∙◌, subst, arith, length-append, length-take, length-drop}
use Rattle.std.proofs.lemmas.List.{length-take-le, take-append-drop}
use Rattle.std.proofs.lemmas.Bool.{cases_lt, cases_order, or_parts, and_parts}
use Rattle.std.proofs.lemmas.Bool.Decides.{nat_tests}
use Rattle.argo_base.specs.Splice.{splice}
use Rattle.argo_base.proofs.SpliceLaws.{splice-append_left, splice-append_right, length-splice, take-splice, take-splice_before, drop-splice_after, part-splice}
use Rattle.std.specs.List.{position_or_len}
use Rattle.argo_model.specs.Rules.State.{Ring}
use Rattle.argo_model.specs.Rules.Register.{has_number, all_differ}
use Rattle.argo_model.specs.Rules.RingBytes.{ring_bytes, laid}
use Rattle.argo_model.specs.Rules.Puts.{byte_at}
use Rattle.state_laws.specs.Each.{Each}
use Rattle.state_laws.specs.Valid.{ShareNone}

-- the bytes of a page
abbrev pub page_of : List ℕ → ℕ → List ℕ
page_of memory page = take 4096 (drop (4096 * page) memory)

-- these pages are there
abbrev pub AreThere : List ℕ → List ℕ → Type 0
AreThere memory pages = Each (λ page. page < length memory / 4096) pages

pub length-page_of : (memory : List ℕ) (p : ℕ) → p < length memory / 4096 → length (page_of memory p) ≡ 4096
length-page_of memory p below = length-take-le 4096 (drop (4096 * p) memory) (omega (arith, length-drop (4096 * p) memory))

pub length-write : (memory ws : List ℕ) (p off : ℕ) → p < length memory / 4096 → off + length ws ≤ 4096 → length (splice memory (4096 * p + off) ws) ≡ length memory
length-write memory ws p off below fit = length-splice memory ws (4096 * p + off) (omega arith)

-- a write into another page
pub other_page : (memory ws : List ℕ) (p off q : ℕ) → p < length memory / 4096 → off + length ws ≤ 4096 → p ≢ q → page_of (splice memory (4096 * p + off) ws) q ≡ page_of memory q
other_page memory ws p off q below fit apart =
    ⊎_elim (λ same. absurd (apart same))
    (⊎_elim (λ less. ap (take 4096) (drop-splice_after memory ws (4096 * p + off) (4096 * q) (omega arith) (omega arith)))
    (λ more. take-splice_before memory ws (4096 * p + off) (4096 * q) 4096 (omega arith) (omega arith)))
    (cases_order p q)

-- a write into the page
pub same_page : (memory ws : List ℕ) (p off : ℕ) → p < length memory / 4096 → off + length ws ≤ 4096 → page_of (splice memory (4096 * p + off) ws) p ≡ splice (page_of memory p) off ws
same_page memory ws p off below fit = part-splice memory ws (4096 * p) 4096 off fit (omega arith)

pub different : (p q : ℕ) → (p == q) ≡ false → p ≢ q
different p q test same = grind (arith, nat_tests)

pub equal : (p q : ℕ) → (p == q) ≡ true → p ≡ q
equal p q test = grind (arith, nat_tests)

-- a write into a page that is none of the ring's
pub outside : (memory ws : List ℕ) (p off : ℕ) (pages : List ℕ) → p < length memory / 4096 → off + length ws ≤ 4096 → has_number pages p ≡ false
    → ring_bytes (splice memory (4096 * p + off) ws) pages ≡ ring_bytes memory pages
outside memory ws p off [] below fit none = refl
outside memory ws p off (q ∷ qs) below fit none =
    let h = or_parts (q == p) (has_number qs p) none in
    let one = other_page memory ws p off q below fit (λ e. different q p h.0 (sym e)) in
    let rest = outside memory ws p off qs below fit h.1 in
    ap (λ x. x ++ ring_bytes (splice memory (4096 * p + off) ws) qs) one ∙ ap (λ x. page_of memory q ++ x) rest

pub length-ring_bytes : (memory pages : List ℕ) → AreThere memory pages → length (ring_bytes memory pages) ≡ 4096 * length pages
length-ring_bytes memory [] there = refl
length-ring_bytes memory (p ∷ ps) there =
    let a = length-append (page_of memory p) (ring_bytes memory ps) in
    let b = length-page_of memory p there.0 in
    let c = length-ring_bytes memory ps there.1 in
    omega arith

pub still_there : (memory new pages : List ℕ) → length new ≡ length memory → AreThere memory pages → AreThere new pages
still_there memory new pages same there = subst (λ (n : ℕ). Each (λ page. page < n / 4096) pages) (sym same) there

-- what is laid back page by page
module _ (p : ℕ) (ps own memory : List ℕ) (below : p < length memory / 4096) where
  first_fit : 0 + length (take 4096 own) ≤ 4096
  first_fit = omega (arith, length-take 4096 own)

  at_page : splice memory (4096 * p) (take 4096 own) ≡ splice memory (4096 * p + 0) (take 4096 own)
  at_page = let e : 4096 * p ≡ 4096 * p + 0 = omega arith in ap (λ k. splice memory k (take 4096 own)) e

  length-first : length (splice memory (4096 * p) (take 4096 own)) ≡ length memory
  length-first = ap length at_page ∙ length-write memory (take 4096 own) p 0 below first_fit

pub length-laid : (pages own memory : List ℕ) → AreThere memory pages → length (laid pages own memory) ≡ length memory
length-laid [] own memory there = refl
length-laid (p ∷ ps) own memory there =
    let next = splice memory (4096 * p) (take 4096 own) in
    let same = length-first p ps own memory there.0 in
    length-laid ps (drop 4096 own) next (still_there memory next ps same there.1) ∙ same

-- a ring laid back changes no page but its own
pub laid_elsewhere : (pages own memory : List ℕ) (q : ℕ) → AreThere memory pages → has_number pages q ≡ false → page_of (laid pages own memory) q ≡ page_of memory q
laid_elsewhere [] own memory q there none = refl
laid_elsewhere (p ∷ ps) own memory q there none =
    let h = or_parts (p == q) (has_number ps q) none in
    let next = splice memory (4096 * p) (take 4096 own) in
    let same = length-first p ps own memory there.0 in
    laid_elsewhere ps (drop 4096 own) next q (still_there memory next ps same there.1) h.1
    ∙ ap (λ m. page_of m q) (at_page p ps own memory there.0)
    ∙ other_page memory (take 4096 own) p 0 q there.0 (first_fit p ps own memory there.0) (different p q h.0)

-- so another ring's bytes stay
pub laid_apart : (pages own memory others : List ℕ) → AreThere memory pages → ShareNone others pages → ring_bytes (laid pages own memory) others ≡ ring_bytes memory others
laid_apart pages own memory [] there none = refl
laid_apart pages own memory (q ∷ qs) there none =
    ap (λ x. x ++ ring_bytes (laid pages own memory) qs) (laid_elsewhere pages own memory q there none.0)
    ∙ ap (λ x. page_of memory q ++ x) (laid_apart pages own memory qs there none.1)

-- and its own bytes are those that were laid back
pub laid_here : (pages own memory : List ℕ) → AreThere memory pages → IsTrue (all_differ pages) → length own ≡ 4096 * length pages → ring_bytes (laid pages own memory) pages ≡ own
laid_here [] [] memory there differ sized = refl
laid_here [] (x ∷ own) memory there differ sized = absurd (omega arith)
laid_here (p ∷ ps) own memory there differ sized =
    let h = and_parts (not (has_number ps p)) (all_differ ps) differ in
    let next = splice memory (4096 * p) (take 4096 own) in
    let same = length-first p ps own memory there.0 in
    let later = still_there memory next ps same there.1 in
    let l : length (take 4096 own) ≡ 4096 = length-take-le 4096 own (omega arith) in
    let rest = laid_here ps (drop 4096 own) next later h.1 (omega (arith, length-drop 4096 own)) in
    let stays = laid_elsewhere ps (drop 4096 own) next p later (not_number (has_number ps p) h.0) in
    let one : page_of next p ≡ take 4096 own =
    ap (λ k. take k (drop (4096 * p) next)) (sym l) ∙ take-splice memory (take 4096 own) (4096 * p) (let b = there.0 in omega arith) in
    ap (λ x. x ++ ring_bytes (laid ps (drop 4096 own) next) ps) (stays ∙ one)
    ∙ ap (λ x. take 4096 own ++ x) rest
    ∙ take-append-drop 4096 own where
      not_number : (b : Bool) → not b ≡ true → b ≡ false
      not_number true e = cc
      not_number false e = refl

-- ---- a write into one of the ring's pages

abbrev is_page : ℕ → ℕ → Bool
is_page page q = q == page

none_before : (page : ℕ) (pages : List ℕ) → length pages ≤ position_or_len (is_page page) pages → has_number pages page ≡ false
none_before page [] past = refl
none_before page (q ∷ qs) past = by (q == page) past (none_before page qs) where
  by : (b : Bool) → suc (length qs) ≤ cond (not b) (1 + position_or_len (is_page page) qs) 0 → (length qs ≤ position_or_len (is_page page) qs → has_number qs page ≡ false) → (b || has_number qs page) ≡ false
  by true past rest = absurd (omega arith)
  by false past rest = rest (omega arith)

-- a write into the page at its place is a write into the ring's bytes
pub inside : (memory ws : List ℕ) (page off : ℕ) (pages : List ℕ) → AreThere memory pages → IsTrue (all_differ pages) → off + length ws ≤ 4096
    → position_or_len (is_page page) pages < length pages
    → ring_bytes (splice memory (4096 * page + off) ws) pages ≡ splice (ring_bytes memory pages) (4096 * position_or_len (is_page page) pages + off) ws
inside memory ws page off [] there differ fit below = absurd (omega arith)
inside memory ws page off (q ∷ qs) there differ fit below = by (q == page) refl below (inside memory ws page off qs there.1 h.1 fit) where
  h : (not (has_number qs q) ≡ true) × (all_differ qs ≡ true)
  h = and_parts (not (has_number qs q)) (all_differ qs) differ

  not_number : (b : Bool) → not b ≡ true → b ≡ false
  not_number true e = cc
  not_number false e = refl

  none : has_number qs q ≡ false
  none = not_number (has_number qs q) h.0

  by : (b : Bool) → (q == page) ≡ b → cond (not b) (1 + position_or_len (is_page page) qs) 0 < suc (length qs)
      → (position_or_len (is_page page) qs < length qs → ring_bytes (splice memory (4096 * page + off) ws) qs ≡ splice (ring_bytes memory qs) (4096 * position_or_len (is_page page) qs + off) ws)
      → page_of (splice memory (4096 * page + off) ws) q ++ ring_bytes (splice memory (4096 * page + off) ws) qs
      ≡ splice (page_of memory q ++ ring_bytes memory qs) (4096 * cond (not b) (1 + position_or_len (is_page page) qs) 0 + off) ws
  by true is below rest =
      let e = equal q page is in
      let here : page < length memory / 4096 = subst (λ k. k < length memory / 4096) e there.0 in
      let one : page_of (splice memory (4096 * page + off) ws) q ≡ splice (page_of memory q) off ws =
      subst (λ k. page_of (splice memory (4096 * k + off) ws) q ≡ splice (page_of memory q) off ws) e (same_page memory ws q off there.0 fit) in
      let stays = outside memory ws page off qs here fit (subst (λ k. has_number qs k ≡ false) e none) in
      let l = length-page_of memory q there.0 in
      let o : off ≡ 4096 * 0 + off = omega arith in
      ap (λ x. x ++ ring_bytes (splice memory (4096 * page + off) ws) qs) one
      ∙ ap (λ x. splice (page_of memory q) off ws ++ x) stays
      ∙ sym (splice-append_left (page_of memory q) (ring_bytes memory qs) ws off (omega arith))
      ∙ ap (λ k. splice (page_of memory q ++ ring_bytes memory qs) k ws) o
  by false is below rest =
      let i = position_or_len (is_page page) qs in
      let inner = rest (omega arith) in
      let here : page < length memory / 4096 = there_at qs there.1 (omega arith) in
      let one = other_page memory ws page off q here fit (λ e. different q page is (sym e)) in
      let l = length-page_of memory q there.0 in
      let o : length (page_of memory q) + (4096 * i + off) ≡ 4096 * (1 + i) + off = omega arith in
      ap (λ x. x ++ ring_bytes (splice memory (4096 * page + off) ws) qs) one
      ∙ ap (λ x. page_of memory q ++ x) inner
      ∙ sym (splice-append_right (page_of memory q) (ring_bytes memory qs) ws (4096 * i + off))
      ∙ ap (λ k. splice (page_of memory q ++ ring_bytes memory qs) k ws) o where
        there_at : (pages : List ℕ) → AreThere memory pages → position_or_len (is_page page) pages < length pages → page < length memory / 4096
        there_at [] there below = absurd (omega arith)
        there_at (p ∷ ps) there below = at (p == page) refl below (there_at ps there.1) where
          at : (b : Bool) → (p == page) ≡ b → cond (not b) (1 + position_or_len (is_page page) ps) 0 < suc (length ps) → (position_or_len (is_page page) ps < length ps → page < length memory / 4096) → page < length memory / 4096
          at true is below rest = subst (λ k. k < length memory / 4096) (equal p page is) there.0
          at false is below rest = rest (omega arith)

-- both, by the byte of the ring at that offset
pub record Written (memory ws : List ℕ) (page off : ℕ) (pages : List ℕ) (at : ℕ) : Type 0 where
  pub bytes : ring_bytes (splice memory (4096 * page + off) ws) pages ≡ splice (ring_bytes memory pages) at ws
  pub within : at + length ws ≤ 4096 * length pages

pub byte_found : (memory ws : List ℕ) (page off : ℕ) (r : Ring) (at : ℕ) → AreThere memory r.pages → IsTrue (all_differ r.pages) → off + length ws ≤ 4096
    → byte_at page off r ≡ Some at → Written memory ws page off r.pages at
byte_found memory ws page off r at there differ fit found =
    ⊎_elim (λ less. let e : 4096 * i + off ≡ at = some_is (nat_lt i (length r.pages)) (grind (arith, nat_tests)) found in
    record { bytes = inside memory ws page off r.pages there differ fit less ∙ ap (λ k. splice (ring_bytes memory r.pages) k ws) e; within = omega arith })
    (λ more. absurd (none_is (nat_lt i (length r.pages)) (grind (arith, nat_tests)) found)) (cases_lt i (length r.pages)) where
      i : ℕ
      i = position_or_len (is_page page) r.pages

      some_is : (b : Bool) → b ≡ true → option_map (λ (place : ℕ). 4096 * place + off) (cond b (Some i) None) ≡ Some at → 4096 * i + off ≡ at
      some_is true e f = cc
      some_is false e f = cc

      none_is : (b : Bool) → b ≡ false → option_map (λ (place : ℕ). 4096 * place + off) (cond b (Some i) None) ≡ Some at → ⊥
      none_is true e f = cc
      none_is false e f = cc

pub byte_missed : (memory ws : List ℕ) (page off : ℕ) (r : Ring) → page < length memory / 4096 → off + length ws ≤ 4096
    → byte_at page off r ≡ None → ring_bytes (splice memory (4096 * page + off) ws) r.pages ≡ ring_bytes memory r.pages
byte_missed memory ws page off r below fit missed = outside memory ws page off r.pages below fit (none_before page r.pages past) where
  i : ℕ
  i = position_or_len (is_page page) r.pages

  is_past : (b : Bool) → nat_lt i (length r.pages) ≡ b → option_map (λ (place : ℕ). 4096 * place + off) (cond b (Some i) None) ≡ None → length r.pages ≤ i
  is_past true e f = cc
  is_past false e f = grind (arith, nat_tests)

  past : length r.pages ≤ i
  past = is_past (nat_lt i (length r.pages)) refl missed
