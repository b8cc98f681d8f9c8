-- Laws of notices that can still fit into a ring.
use Rattle.std.proofs.Common.{◌≡◌, ℕ, ◌≤◌, max, Bool, true, false, cond, IsTrue, List, [], ◌∷◌, Option, Some, ⊎_elim, refl, sym, ap, subst, arith}
use Rattle.std.specs.Prelude.{not, unwrap_or, if◌then◌else◌}
use Rattle.std.specs.List.{list_all, filter}
use Rattle.std.specs.Ordering.{nat_cmp, match_ordering}
use Rattle.std.specs.declared.cmp.Ordering.{Ordering}
use Rattle.std.specs.declared.cmp.Ordering.TheVariants.{Less, Equal, Greater}
use Rattle.std.specs.Map.{remove_entry}
use Rattle.std.specs.BTreeMap.{is_at, insert_entry}
use Rattle.std.proofs.lemmas.Bool.{cases_lt}
use Rattle.std.proofs.lemmas.Bool.Decides.{nat_tests}
use Rattle.argo_base.specs.Notices.{Notices, size_of, noted, is_busy}
use Rattle.argo_base.specs.Slots.{is_too_big}
use Rattle.argo_model.specs.Rules.Register.{can_fit}
use Rattle.ring_core.proofs.TestLaws.{both, and_also}

-- ---- what holds of each row

module _ {X : Type 0} (p : X → Bool) where
  front : (t : Bool) (x : X) (xs : List X) → IsTrue (p x) → IsTrue (list_all p xs) → IsTrue (list_all p (cond t (x ∷ xs) xs))
  front true x xs here rest = and_also (p x) (list_all p xs) here rest
  front false x xs here rest = rest

  -- some of the rows
  pub all_filter : (q : X → Bool) (xs : List X) → IsTrue (list_all p xs) → IsTrue (list_all p (filter q xs))
  all_filter q [] all = refl
  all_filter q (x ∷ xs) all =
      let b = both (p x) (list_all p xs) all in
      front (q x) x (filter q xs) b.0 (all_filter q xs b.1)

-- all rows that pass are those that are left of them
pub all_left : {X : Type 0} (p : X → Bool) (xs : List X) → IsTrue (list_all p (filter p xs))
all_left p [] = refl
all_left p (x ∷ xs) = by (p x) refl (all_left p xs) where
  by : (t : Bool) → p x ≡ t → IsTrue (list_all p (filter p xs)) → IsTrue (list_all p (cond t (x ∷ filter p xs) (filter p xs)))
  by true is rest = and_also (p x) (list_all p (filter p xs)) is rest
  by false is rest = rest

without_first : (p : ℕ × ℕ → Bool) (t : Bool) (e : ℕ × ℕ) (es rest : Notices) → IsTrue (p e) → IsTrue (list_all p es) → IsTrue (list_all p rest)
    → IsTrue (list_all p (cond t es (e ∷ rest)))
without_first p true e es rest here all left = all
without_first p false e es rest here all left = and_also (p e) (list_all p rest) here left

-- all rows but one
pub all_removed : (p : ℕ × ℕ → Bool) (t : ℕ → Bool) (ns : Notices) → IsTrue (list_all p ns) → IsTrue (list_all p (remove_entry t ns))
all_removed p t [] all = refl
all_removed p t (e ∷ es) all =
    let b = both (p e) (list_all p es) all in
    without_first p (t e.0) e es (remove_entry t es) b.0 b.1 (all_removed p t es b.1)

-- ---- a notice that is set or raised

put_in : (len : ℕ) (o : Ordering) (d n : ℕ) (e : ℕ × ℕ) (es rest : Notices) → IsTrue (can_fit len (d, n)) → IsTrue (can_fit len e)
    → IsTrue (list_all (can_fit len) es) → IsTrue (list_all (can_fit len) rest)
    → IsTrue (list_all (can_fit len) (match_ordering o ((d, n) ∷ e ∷ es) ((e.0, n) ∷ es) (e ∷ rest)))
put_in len Less d n e es rest new here all left =
    and_also (can_fit len (d, n)) (list_all (can_fit len) (e ∷ es)) new (and_also (can_fit len e) (list_all (can_fit len) es) here all)
put_in len Equal d n e es rest new here all left = and_also (can_fit len (d, n)) (list_all (can_fit len) es) new all
put_in len Greater d n e es rest new here all left = and_also (can_fit len e) (list_all (can_fit len) rest) here left

all_inserted : (len : ℕ) (ns : Notices) (d n : ℕ) → IsTrue (list_all (can_fit len) ns) → IsTrue (can_fit len (d, n))
    → IsTrue (list_all (can_fit len) (insert_entry nat_cmp ns d n))
all_inserted len [] d n all new = and_also (can_fit len (d, n)) true new refl
all_inserted len (e ∷ es) d n all new =
    let b = both (can_fit len e) (list_all (can_fit len) es) all in
    put_in len (nat_cmp d e.0) d n e es (insert_entry nat_cmp es d n) new b.0 b.1 (all_inserted len es d n b.1 new)

found : (len d : ℕ) (t : Bool) (e : ℕ × ℕ) (rest : Option ℕ) → IsTrue (can_fit len e) → IsTrue (can_fit len (d, unwrap_or rest 0))
    → IsTrue (can_fit len (d, unwrap_or (cond t (Some e.1) rest) 0))
found len d true e rest here left = here
found len d false e rest here left = left

-- the size that stands can fit, and so can none
size_fits : (len : ℕ) (ns : Notices) (d : ℕ) → 48 ≤ len → IsTrue (list_all (can_fit len) ns) → IsTrue (can_fit len (d, unwrap_or (size_of ns d) 0))
size_fits len [] d least all = grind (arith, nat_tests)
size_fits len (e ∷ es) d least all =
    let b = both (can_fit len e) (list_all (can_fit len) es) all in
    found len d (is_at (nat_cmp d) e.0) e (size_of es d) b.0 (size_fits len es d least b.1)

greater_fits : (len d a b : ℕ) → IsTrue (can_fit len (d, a)) → IsTrue (can_fit len (d, b)) → IsTrue (can_fit len (d, max a b))
greater_fits len d a b first second =
    ⊎_elim
    (λ less. let e : max a b ≡ b = omega arith in subst (λ n. IsTrue (can_fit len (d, n))) (sym e) second)
    (λ more. let e : max a b ≡ a = omega arith in subst (λ n. IsTrue (can_fit len (d, n))) (sym e) first)
    (cases_lt a b)

all_noted : (len : ℕ) (ns : Notices) (d n : ℕ) → 48 ≤ len → IsTrue (list_all (can_fit len) ns) → IsTrue (can_fit len (d, n))
    → IsTrue (list_all (can_fit len) (noted ns d n))
all_noted len ns d n least all new =
    all_inserted len ns d (max n (unwrap_or (size_of ns d) 0)) all
    (greater_fits len d n (unwrap_or (size_of ns d) 0) new (size_fits len ns d least all))

chosen : (p : ℕ × ℕ → Bool) (busy : Bool) (ns more : Notices) → IsTrue (list_all p ns) → IsTrue (list_all p more) → IsTrue (list_all p (if busy then ns else more))
chosen p true ns more all new = all
chosen p false ns more all new = new

-- a notice for a body that is not too big, where there is a place for it
pub all_told : (len : ℕ) (ns : Notices) (d n : ℕ) → 48 ≤ len → IsTrue (list_all (can_fit len) ns) → is_too_big len n ≡ false
    → IsTrue (list_all (can_fit len) (if is_busy ns d then ns else noted ns d n))
all_told len ns d n least all not_big =
    chosen (can_fit len) (is_busy ns d) ns (noted ns d n) all (all_noted len ns d n least all (ap not not_big))
