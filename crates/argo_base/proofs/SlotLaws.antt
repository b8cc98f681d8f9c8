-- Laws of the arithmetic of slots.
use Rattle.std.proofs.Common.{◌≡◌, ℕ, ◌+◌, ◌-◌, ◌*◌, ◌%◌, ◌<◌, ◌≤◌, ⊎_elim, refl, sym, ap, subst, ◌∙◌, add_assoc, add-zero, arith}
use Rattle.std.specs.Prelude.{IsTrue, IsFalse}
use Rattle.std.proofs.Math.Nat.{mod-eq_of_lt, mod-eq-sub-mod, mod-add-mod}
use Rattle.std.proofs.lemmas.Nat.{mod_below}
use Rattle.std.proofs.lemmas.Bool.{cases_lt, cases_order, cases_eq}
use Rattle.std.proofs.lemmas.Bool.Decides.{nat_tests}
use Rattle.argo_base.specs.Slots.{up, room, is_legal, page_count, is_place, place_after, sanitised, span_to, span, fits, is_too_big}

-- ---- rounding up

pub up_at_least : (n : ℕ) → n ≤ up n
up_at_least n = omega arith

pub up_below : (n : ℕ) → up n < n + 16
up_below n = omega arith

pub up_even : (n : ℕ) → up n % 16 ≡ 0
up_even n = omega arith

pub up-same : (n : ℕ) → n % 16 ≡ 0 → up n ≡ n
up-same n even = omega arith

pub up-add : (n m : ℕ) → m % 16 ≡ 0 → up (n + m) ≡ up n + m
up-add n m even = omega arith

pub up_mono : (n m : ℕ) → n ≤ m → up n ≤ up m
up_mono n m below = omega arith

pub room_even : (n : ℕ) → room n % 16 ≡ 0
room_even n = omega arith

pub room_mono : (n m : ℕ) → n ≤ m → room n ≤ room m
room_mono n m below = omega arith

-- ---- what the tests say

pub record IsLegal (len : ℕ) : Type 0 where
  pub least : 48 ≤ len
  pub most : len ≤ 0x1000000
  pub even : len % 16 ≡ 0

pub legal : (len : ℕ) → IsTrue (is_legal len) → IsLegal len
legal len test = record { least = grind (arith, nat_tests); most = grind (arith, nat_tests); even = grind (arith, nat_tests) }

pub record IsPlace (len at : ℕ) : Type 0 where
  pub even : at % 16 ≡ 0
  pub below : at < len

pub place : (len at : ℕ) → IsTrue (is_place len at) → IsPlace len at
place len at test = record { even = grind (arith, nat_tests); below = grind (arith, nat_tests) }

pub is_place_from : (len at : ℕ) → IsPlace len at → IsTrue (is_place len at)
is_place_from len at p = let e = p.even in let b = p.below in grind (arith, nat_tests)

-- ---- going round

-- a range that does not reach the end, and one that reaches it or goes past it
pub place_after-short : (len at n : ℕ) → at + n < len → place_after len at n ≡ at + n
place_after-short len at n short = mod-eq_of_lt short

pub place_after-long : (len at n : ℕ) → len ≤ at + n → at + n < len + len → place_after len at n ≡ at + n - len
place_after-long len at n long once = mod-eq-sub-mod long ∙ mod-eq_of_lt (omega arith)

pub place_after-zero : (len at : ℕ) → at < len → place_after len at 0 ≡ at
place_after-zero len at below = place_after-short len at 0 (omega arith) ∙ add-zero at

-- one range after another
pub place_after-place_after : (len at n m : ℕ) → place_after len (place_after len at n) m ≡ place_after len at (n + m)
place_after-place_after len at n m = mod-add-mod (at + n) len m ∙ ap (λ x. x % len) (add_assoc at n m)

pub place_after_below : (len at n : ℕ) → 0 < len → place_after len at n < len
place_after_below len at n some = mod_below (at + n) len some

-- a place stays one, where the range is a multiple of 16 of at most the whole ring
pub place_after_place : (len at n : ℕ) → IsPlace len at → len % 16 ≡ 0 → n % 16 ≡ 0 → n ≤ len → IsPlace len (place_after len at n)
place_after_place len at n p even step most =
    let e = p.even in
    let b = p.below in
    ⊎_elim
    (λ short. subst (IsPlace len) (sym (place_after-short len at n short)) (record { even = omega arith; below = omega arith }))
    (λ long. subst (IsPlace len) (sym (place_after-long len at n long (omega arith))) (record { even = omega arith; below = omega arith }))
    (cases_lt (at + n) len)

-- different ranges of less than the whole ring end at different places
pub place_after_differs : (len at n m : ℕ) → at < len → n < len → m < len → place_after len at n ≡ place_after len at m → n ≡ m
place_after_differs len at n m below n_below m_below same =
    ⊎_elim
    (λ n_short. let a = place_after-short len at n n_short in
    ⊎_elim (λ m_short. let b = place_after-short len at m m_short in omega arith)
    (λ m_long. let b = place_after-long len at m m_long (omega arith) in omega arith) (cases_lt (at + m) len))
    (λ n_long. let a = place_after-long len at n n_long (omega arith) in
    ⊎_elim (λ m_short. let b = place_after-short len at m m_short in omega arith)
    (λ m_long. let b = place_after-long len at m m_long (omega arith) in omega arith) (cases_lt (at + m) len))
    (cases_lt (at + n) len)

-- ---- what an rx word counts as

pub sanitised_below : (len rx : ℕ) → 0 < len → sanitised len rx < len
sanitised_below len rx some = grind (arith, nat_tests)

pub sanitised_place : (len rx : ℕ) → 0 < len → IsPlace len (sanitised len rx)
sanitised_place len rx some =
    ⊎_elim
    (λ below. let e : sanitised len rx ≡ up rx = grind (arith, nat_tests) in subst (IsPlace len) (sym e) (record { even = up_even rx; below = below }))
    (λ past. let e : sanitised len rx ≡ 0 = grind (arith, nat_tests) in subst (IsPlace len) (sym e) (record { even = refl; below = some }))
    (cases_lt (up rx) len)

pub sanitised-place : (len rx : ℕ) → IsPlace len rx → sanitised len rx ≡ rx
sanitised-place len rx p =
    let e = up-same rx p.even in
    let b = p.below in
    grind (arith, nat_tests)

-- ---- free bytes

pub span_to-same : (len tx : ℕ) → span_to len tx tx ≡ len
span_to-same len tx = grind (arith, nat_tests)

pub span_to-ahead : (len tx at : ℕ) → tx < at → at < len → span_to len tx at ≡ at - tx
span_to-ahead len tx at ahead below =
    let past : len ≤ len + at - tx = omega arith in
    let e : (len + at - tx) % len ≡ at - tx = mod-eq-sub-mod past ∙ mod-eq_of_lt (omega arith) ∙ omega arith in
    grind (arith, nat_tests)

pub span_to-behind : (len tx at : ℕ) → at < tx → tx < len → span_to len tx at ≡ len + at - tx
span_to-behind len tx at behind below =
    let e : (len + at - tx) % len ≡ len + at - tx = mod-eq_of_lt (omega arith) in
    grind (arith, nat_tests)

pub record IsSpan (len tx at free : ℕ) : Type 0 where
  pub some : 0 < free
  pub most : free ≤ len
  pub even : free % 16 ≡ 0

-- there is always a byte to tx, and never more than the ring has
pub span_to_is : (len tx at : ℕ) → len % 16 ≡ 0 → IsPlace len tx → IsPlace len at → IsSpan len tx at (span_to len tx at)
span_to_is len tx at even p q =
    let p_even = p.even in
    let p_below = p.below in
    let q_even = q.even in
    let q_below = q.below in
    ⊎_elim (λ same. subst (IsSpan len tx at) (sym (ap (span_to len tx) same ∙ span_to-same len tx)) (record { some = omega arith; most = omega arith; even = even }))
    (⊎_elim (λ behind. subst (IsSpan len tx at) (sym (span_to-behind len tx at behind p_below)) (record { some = omega arith; most = omega arith; even = omega arith }))
    (λ ahead. subst (IsSpan len tx at) (sym (span_to-ahead len tx at ahead q_below)) (record { some = omega arith; most = omega arith; even = omega arith })))
    (cases_order at tx)

-- the same whatever the rx word says
pub span_is : (len rx tx : ℕ) → 0 < len → len % 16 ≡ 0 → IsPlace len tx → IsSpan len tx (sanitised len rx) (span len rx tx)
span_is len rx tx some even p = span_to_is len tx (sanitised len rx) even p (sanitised_place len rx some)

-- less than all the free bytes are taken, and so many are free afterwards
pub span_to-place_after : (len tx at n : ℕ) → tx < len → at < len → n < span_to len tx at → span_to len (place_after len tx n) at ≡ span_to len tx at - n
span_to-place_after len tx at n below at_below less =
    ⊎_elim (λ same. let f = ap (span_to len tx) same ∙ span_to-same len tx in
    ⊎_elim (λ short. let p = place_after-short len tx n short in
    ⊎_elim (λ none. ap (λ x. span_to len x at) (p ∙ omega arith) ∙ f ∙ omega (arith, f))
    (λ some. ap (λ x. span_to len x at) p ∙ span_to-behind len (tx + n) at (omega arith) short ∙ omega (arith, f))
    (cases_eq n 0))
    (λ long. let p = place_after-long len tx n long (omega (arith, f)) in
    ap (λ x. span_to len x at) p ∙ span_to-ahead len (tx + n - len) at (omega (arith, f)) at_below ∙ omega (arith, f))
    (cases_lt (tx + n) len))
    (⊎_elim (λ behind. let f = span_to-behind len tx at behind below in
    ⊎_elim (λ short. let p = place_after-short len tx n short in
    ap (λ x. span_to len x at) p ∙ span_to-behind len (tx + n) at (omega arith) short ∙ omega (arith, f))
    (λ long. let p = place_after-long len tx n long (omega (arith, f)) in
    ap (λ x. span_to len x at) p ∙ span_to-ahead len (tx + n - len) at (omega (arith, f)) at_below ∙ omega (arith, f))
    (cases_lt (tx + n) len))
    (λ ahead. let f = span_to-ahead len tx at ahead at_below in
    let p = place_after-short len tx n (omega (arith, f)) in
    ap (λ x. span_to len x at) p ∙ span_to-ahead len (tx + n) at (omega (arith, f)) at_below ∙ omega (arith, f)))
    (cases_order at tx)

-- ---- bodies that fit

pub fits_below : (free n : ℕ) → IsTrue (fits free n) → room n < free
fits_below free n test = grind (arith, nat_tests)

pub fits_not : (free n : ℕ) → IsFalse (fits free n) → free ≤ room n
fits_not free n test = grind (arith, nat_tests)

-- what fits now is not too big
pub fits_not_too_big : (len free n : ℕ) → free ≤ len → IsTrue (fits free n) → IsFalse (is_too_big len n)
fits_not_too_big len free n most test = let b = fits_below free n test in grind (arith, nat_tests)

-- ---- pages

-- the pages hold the header and the slots, and the last of them is needed
pub page_count_holds : (len : ℕ) → 64 + len ≤ 4096 * page_count len
page_count_holds len = omega arith

pub page_count_least : (len : ℕ) → 4096 * page_count len < 64 + len + 4096
page_count_least len = omega arith

pub page_count_most : (len : ℕ) → len ≤ 0x1000000 → page_count len ≤ 4097
page_count_most len most = omega arith
