-- Laws of entries by rising number, as the notices of a ring and the domains of a state are.
use Rattle.std.proofs.Common.{◌≡◌, ◌≢◌, ℕ, suc, ◌+◌, ◌<◌, ◌≤◌, Bool, true, false, cond, nat_le, ◌&&◌, List, [], ◌∷◌, length, filter, is_none, Option, Some, None, refl, ap, ◌∙◌, subst, arith, max, unwrap_or}
use Rattle.std.specs.declared.cmp.Ordering.{Ordering}
use Rattle.std.specs.declared.cmp.Ordering.TheVariants.{Less, Equal, Greater}
use Rattle.std.specs.Ordering.{nat_cmp, match_ordering, is_eq}
use Rattle.std.specs.Map.{lookup, remove_entry}
use Rattle.std.specs.BTreeMap.{is_at, insert_entry}
use Rattle.std.proofs.lemmas.Bool.Decides.{nat_tests}
use Rattle.argo_base.specs.Notices.{Notices, size_of, is_busy, noted, withdrawn}
use Rattle.argo_base.specs.Limits.{most_notices}
use Rattle.state_laws.specs.Each.{Each, EachTwo}
use Rattle.state_laws.proofs.Lists.{each_weak}

-- what a comparison tells
cmp_less : (a b : ℕ) → nat_cmp a b ≡ Less → a < b
cmp_less a b h = grind (arith, nat_tests)

pub cmp_equal : (a b : ℕ) → nat_cmp a b ≡ Equal → a ≡ b
cmp_equal a b h = grind (arith, nat_tests)

cmp_greater : (a b : ℕ) → nat_cmp a b ≡ Greater → b < a
cmp_greater a b h = grind (arith, nat_tests)

pub is_at_not : (a b : ℕ) → a ≢ b → is_at (nat_cmp a) b ≡ false
is_at_not a b apart = grind (arith, nat_tests)

pub is_at_same : (a b : ℕ) → is_at (nat_cmp a) b ≡ true → a ≡ b
is_at_same a b h = grind (arith, nat_tests)

pub is_at_self : (a : ℕ) → is_at (nat_cmp a) a ≡ true
is_at_self a = grind (arith, nat_tests)

module _ {X : Type 0} where
  abbrev pub IsRising : List (ℕ × X) → Type 0
  IsRising es = EachTwo (λ (a b : ℕ × X). a.0 < b.0) es

  -- no entry of a number is found where none has it
  pub absent : (k : ℕ) (es : List (ℕ × X)) → Each (λ (e : ℕ × X). k ≢ e.0) es → lookup (is_at (nat_cmp k)) es ≡ None
  absent k [] none = refl
  absent k (e ∷ es) none = ap (λ (b : Bool). cond b (Some e.1) (lookup (is_at (nat_cmp k)) es)) (is_at_not k e.0 none.0) ∙ absent k es none.1

  absent_below : (k : ℕ) (e : ℕ × X) (es : List (ℕ × X)) → k < e.0 → Each (λ (f : ℕ × X). e.0 < f.0) es → lookup (is_at (nat_cmp k)) (e ∷ es) ≡ None
  absent_below k e es below rising =
      let apart : k ≢ e.0 = omega arith in
      absent k (e ∷ es) (apart, each_weak (λ (f : ℕ × X). e.0 < f.0) (λ (f : ℕ × X). k ≢ f.0) (λ f l s. omega arith) es rising)

  -- an entry is set, or comes in
  each_insert : (P : ℕ × X → Type 0) (es : List (ℕ × X)) (k : ℕ) (v : X) → Each P es → ((q : ℕ) → k ≡ q → P (q, v)) → Each P (insert_entry nat_cmp es k v)
  each_insert P [] k v all new = (new k refl, tt)
  each_insert P (e ∷ es) k v all new = by (nat_cmp k e.0) refl (each_insert P es k v all.1 new) where
    by : (o : Ordering) → nat_cmp k e.0 ≡ o → Each P (insert_entry nat_cmp es k v) → Each P (match_ordering o ((k, v) ∷ e ∷ es) ((e.0, v) ∷ es) (e ∷ insert_entry nat_cmp es k v))
    by Less is rest = (new k refl, all)
    by Equal is rest = (new e.0 (cmp_equal k e.0 is), all.1)
    by Greater is rest = (all.0, rest)

  pub rising_insert : (es : List (ℕ × X)) (k : ℕ) (v : X) → IsRising es → IsRising (insert_entry nat_cmp es k v)
  rising_insert [] k v rising = (tt, tt)
  rising_insert (e ∷ es) k v rising = by (nat_cmp k e.0) refl (rising_insert es k v rising.1) where
    by : (o : Ordering) → nat_cmp k e.0 ≡ o → IsRising (insert_entry nat_cmp es k v) → IsRising (match_ordering o ((k, v) ∷ e ∷ es) ((e.0, v) ∷ es) (e ∷ insert_entry nat_cmp es k v))
    by Less is rest =
        let l = cmp_less k e.0 is in
        ((l, each_weak (λ (f : ℕ × X). e.0 < f.0) (λ (f : ℕ × X). k < f.0) (λ f h. omega arith) es rising.0), rising)
    by Equal is rest = rising
    by Greater is rest = (each_insert (λ (f : ℕ × X). e.0 < f.0) es k v rising.0 (λ q same. subst (λ n. e.0 < n) same (cmp_greater k e.0 is)), rest)

  pub each_rising : (P : ℕ × X → Type 0) (es : List (ℕ × X)) (k : ℕ) (v : X) → Each P es → P (k, v) → Each P (insert_entry nat_cmp es k v)
  each_rising P es k v all new = each_insert P es k v all (λ q same. subst (λ n. P (n, v)) same new)

  -- how many there are then
  length-insert : (es : List (ℕ × X)) (k : ℕ) (v : X) → length (insert_entry nat_cmp es k v) ≤ length es + 1
  length-insert [] k v = omega arith
  length-insert (e ∷ es) k v = by (nat_cmp k e.0) (length-insert es k v) where
    by : (o : Ordering) → length (insert_entry nat_cmp es k v) ≤ length es + 1 → length (match_ordering o ((k, v) ∷ e ∷ es) ((e.0, v) ∷ es) (e ∷ insert_entry nat_cmp es k v)) ≤ suc (length es) + 1
    by Less rest = omega arith
    by Equal rest = omega arith
    by Greater rest = omega arith

  length-insert_found : (es : List (ℕ × X)) (k : ℕ) (v x : X) → IsRising es → lookup (is_at (nat_cmp k)) es ≡ Some x → length (insert_entry nat_cmp es k v) ≤ length es
  length-insert_found [] k v x rising here = cc
  length-insert_found (e ∷ es) k v x rising here = by (nat_cmp k e.0) refl here (length-insert_found es k v x rising.1) where
    by : (o : Ordering) → nat_cmp k e.0 ≡ o → cond (is_eq o) (Some e.1) (lookup (is_at (nat_cmp k)) es) ≡ Some x
        → (lookup (is_at (nat_cmp k)) es ≡ Some x → length (insert_entry nat_cmp es k v) ≤ length es)
        → length (match_ordering o ((k, v) ∷ e ∷ es) ((e.0, v) ∷ es) (e ∷ insert_entry nat_cmp es k v)) ≤ suc (length es)
    by Less is here rest =
        let l = cmp_less k e.0 is in
        let none : lookup (is_at (nat_cmp k)) es ≡ None = absent k es (each_weak (λ (f : ℕ × X). e.0 < f.0) (λ (f : ℕ × X). k ≢ f.0) (λ f h s. omega arith) es rising.0) in
        cc
    by Equal is here rest = omega arith
    by Greater is here rest = let h = rest here in omega arith

  -- an entry goes out
  pub each_remove : (P : ℕ × X → Type 0) (test : ℕ → Bool) (es : List (ℕ × X)) → Each P es → Each P (remove_entry test es)
  each_remove P test [] all = tt
  each_remove P test (e ∷ es) all = by (test e.0) (each_remove P test es all.1) where
    by : (b : Bool) → Each P (remove_entry test es) → Each P (cond b es (e ∷ remove_entry test es))
    by true rest = all.1
    by false rest = (all.0, rest)

  pub rising_remove : (test : ℕ → Bool) (es : List (ℕ × X)) → IsRising es → IsRising (remove_entry test es)
  rising_remove test [] all = tt
  rising_remove test (e ∷ es) all = by (test e.0) (rising_remove test es all.1) where
    by : (b : Bool) → IsRising (remove_entry test es) → IsRising (cond b es (e ∷ remove_entry test es))
    by true rest = all.1
    by false rest = (each_remove (λ (f : ℕ × X). e.0 < f.0) test es all.0, rest)

  -- and then none has its number
  pub none_removed : (k : ℕ) (es : List (ℕ × X)) → IsRising es → Each (λ (e : ℕ × X). k ≢ e.0) (remove_entry (is_at (nat_cmp k)) es)
  none_removed k [] all = tt
  none_removed k (e ∷ es) all = by (is_at (nat_cmp k) e.0) refl (none_removed k es all.1) where
    by : (b : Bool) → is_at (nat_cmp k) e.0 ≡ b → Each (λ (f : ℕ × X). k ≢ f.0) (remove_entry (is_at (nat_cmp k)) es)
        → Each (λ (f : ℕ × X). k ≢ f.0) (cond b es (e ∷ remove_entry (is_at (nat_cmp k)) es))
    by true is rest =
        let same = is_at_same k e.0 is in
        each_weak (λ (f : ℕ × X). e.0 < f.0) (λ (f : ℕ × X). k ≢ f.0) (λ f h s. omega arith) es all.0
    by false is rest = (λ same. not_self same is, rest) where
      not_self : k ≡ e.0 → is_at (nat_cmp k) e.0 ≡ false → ⊥
      not_self same is = grind (arith, nat_tests)

  length-remove : (test : ℕ → Bool) (es : List (ℕ × X)) → length (remove_entry test es) ≤ length es
  length-remove test [] = omega arith
  length-remove test (e ∷ es) = by (test e.0) (length-remove test es) where
    by : (b : Bool) → length (remove_entry test es) ≤ length es → length (cond b es (e ∷ remove_entry test es)) ≤ suc (length es)
    by true rest = omega arith
    by false rest = omega arith

pub length-kept : {X : Type 0} (kept : X → Bool) (es : List X) → length (filter kept es) ≤ length es
length-kept kept [] = omega arith
length-kept {X} kept (e ∷ es) = by (kept e) (length-kept kept es) where
  by : (b : Bool) → length (filter kept es) ≤ length es → length (cond b (e ∷ filter kept es) (filter kept es)) ≤ suc (length es)
  by true rest = omega arith
  by false rest = omega arith

-- ---- notices

pub few_noted : (ns : Notices) (d n : ℕ) → IsRising ns → is_busy ns d ≡ false → length ns ≤ most_notices → length (noted ns d n) ≤ most_notices
few_noted ns d n rising busy few = by (size_of ns d) refl busy where
  v : ℕ
  v = max n (unwrap_or (size_of ns d) 0)

  by : (o : Option ℕ) → size_of ns d ≡ o → (is_none o && nat_le most_notices (length ns)) ≡ false → length (noted ns d n) ≤ most_notices
  by (Some x) is busy = let l = length-insert_found ns d v x rising is in omega arith
  by None is busy = let l = length-insert ns d v in grind (arith, nat_tests)

pub few_withdrawn : (ns : Notices) (d : ℕ) → length ns ≤ most_notices → length (withdrawn ns d) ≤ most_notices
few_withdrawn ns d few = let l = length-remove (is_at (nat_cmp d)) ns in omega arith
