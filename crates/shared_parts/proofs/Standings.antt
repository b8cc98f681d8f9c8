-- Laws of how domains stand: what is found of one, what a change keeps, and how they start.
use Rattle.std.proofs.Common.{◌≡◌, ◌≢◌, ℕ, ◌==◌, Bool, true, false, not, ◌||◌, List, IsTrue, Option, Some, None, refl, sym, ap, subst, arith}
use Rattle.std.specs.Ordering.{nat_cmp}
use Rattle.std.specs.Map.{lookup, set_value}
use Rattle.std.specs.BTreeMap.{is_at}
use Rattle.std.proofs.lemmas.Bool.Decides.{nat_tests}
use Rattle.argo_model.specs.Rules.Possible.{Facts, is_destroyed, may_be_away}
use Rattle.argo_model.specs.Runs.Script.{has_domain}
use Rattle.state_laws.proofs.Domains.{get_set_other, get_set_same}
use Rattle.shared_parts.specs.Domains.{Standing, MayStand, MayBeFound, AreOf, IsParty, ended, begun, change_found, change_domain}

-- ---- what is found

module _ (f : Facts) (d : ℕ) (xs : List (ℕ × Standing)) (are : AreOf f xs) where
  pub found_stands : (x : Standing) → lookup (is_at (nat_cmp d)) xs ≡ Some x → MayStand f d x
  found_stands x found = subst (MayBeFound f d) found (are d)

  pub none_unknown : lookup (is_at (nat_cmp d)) xs ≡ None → has_domain f.domains d ≡ false
  none_unknown none = subst (MayBeFound f d) none (are d)

  pub gone_destroyed : (x : Standing) → lookup (is_at (nat_cmp d)) xs ≡ Some x → x.alive ≡ false → IsTrue (is_destroyed f d)
  gone_destroyed x found gone = (found_stands x found).gone gone

  pub away_none : lookup (is_at (nat_cmp d)) xs ≡ None → IsTrue (may_be_away f d)
  away_none none = ap (λ (b : Bool). not b || is_destroyed f d) (none_unknown none)

  pub away_gone : (x : Standing) → lookup (is_at (nat_cmp d)) xs ≡ Some x → x.alive ≡ false → IsTrue (may_be_away f d)
  away_gone x found gone = by (not (has_domain f.domains d)) (gone_destroyed x found gone) where
    by : (b : Bool) → IsTrue (is_destroyed f d) → IsTrue (b || is_destroyed f d)
    by true destroyed = refl
    by false destroyed = destroyed

  pub found_party : (x : Standing) → lookup (is_at (nat_cmp d)) xs ≡ Some x → IsParty f d x.on x.pages
  found_party x found =
      let stands = found_stands x found in
      record { known = stands.known; on = stands.on; pages = stands.pages }

  pub found_first : (x : Standing) → lookup (is_at (nat_cmp d)) xs ≡ Some x → (x.generation ≡ 1 → ⊥) → IsTrue (is_destroyed f d)
  found_first x found later = (found_stands x found).anew later

-- ---- what a change keeps

module _ (f : Facts) (d : ℕ) (change : Standing → Standing) (keeps : (x : Standing) → MayStand f d x → MayStand f d (change x)) where
  change_keeps : (xs : List (ℕ × Standing)) → AreOf f xs → AreOf f (change_domain xs d change)
  change_keeps xs are q = by (lookup (is_at (nat_cmp d)) xs) refl where
    here : (x : Standing) → lookup (is_at (nat_cmp d)) xs ≡ Some x → (b : Bool) → (q == d) ≡ b → MayBeFound f q (lookup (is_at (nat_cmp q)) (set_value (is_at (nat_cmp d)) xs (change x)))
    here x found true is =
        let same : d ≡ q = grind (arith, nat_tests) in
        let stands = keeps x (found_stands f d xs are x found) in
        let at : lookup (is_at (nat_cmp d)) (set_value (is_at (nat_cmp d)) xs (change x)) ≡ Some (change x) = get_set_same d (change x) xs x found in
        subst (λ k. MayBeFound f k (lookup (is_at (nat_cmp k)) (set_value (is_at (nat_cmp d)) xs (change x)))) same (subst (MayBeFound f d) (sym at) stands)
    here x found false is =
        let apart : d ≢ q = grind (arith, nat_tests) in
        subst (MayBeFound f q) (sym (get_set_other d (change x) q xs apart)) (are q)

    by : (o : Option Standing) → lookup (is_at (nat_cmp d)) xs ≡ o → MayBeFound f q (lookup (is_at (nat_cmp q)) (change_found xs d change o))
    by None found = are q
    by (Some x) found = here x found (q == d) refl

pub end_keeps : (f : Facts) (d : ℕ) (xs : List (ℕ × Standing)) → IsTrue (is_destroyed f d) → AreOf f xs → AreOf f (change_domain xs d ended)
end_keeps f d xs destroyed are =
    change_keeps f d ended (λ x s. record { known = s.known; on = s.on; pages = s.pages; gone = λ _. destroyed; anew = λ _. destroyed }) xs are

pub begin_keeps : (f : Facts) (d : ℕ) (xs : List (ℕ × Standing)) → IsTrue (is_destroyed f d) → AreOf f xs → AreOf f (change_domain xs d begun)
begin_keeps f d xs destroyed are =
    change_keeps f d begun (λ x s. record { known = s.known; on = s.on; pages = s.pages; gone = λ _. destroyed; anew = λ _. destroyed }) xs are
