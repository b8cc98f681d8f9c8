-- Laws of what holds of every value of a list of entries.
use Rattle.std.proofs.Common.{◌≡◌, Bool, true, false, cond, List, [], ◌∷◌, IsTrue, Some, map, filter, refl, subst}
use Rattle.std.specs.List.{list_all}
use Rattle.std.specs.declared.cmp.Ordering.{Ordering}
use Rattle.std.specs.declared.cmp.Ordering.TheVariants.{Less, Equal, Greater}
use Rattle.std.specs.Ordering.{match_ordering}
use Rattle.std.specs.Map.{lookup, set_value, remove_entry}
use Rattle.std.specs.BTreeMap.{insert_entry}
use Rattle.live_domain.proofs.TestLaws.{both, and_also}

-- every value passes a test
abbrev pub all_pass : {K X : Type 0} → (X → Bool) → List (K × X) → Bool
all_pass {K} {X} test es = list_all (λ (e : K × X). test e.1) es

-- so does one that is found
pub all_pass-lookup : {K X : Type 0} (test : X → Bool) (at : K → Bool) (es : List (K × X)) (x : X) → lookup at es ≡ Some x → IsTrue (all_pass test es) → IsTrue (test x)
all_pass-lookup test at [] x found all = cc
all_pass-lookup {K} {X} test at (e ∷ es) x found all =
    by (at e.0) found (λ later. all_pass-lookup test at es x later (both (test e.1) (all_pass test es) all).1) where
      by : (b : Bool) → cond b (Some e.1) (lookup at es) ≡ Some x → (lookup at es ≡ Some x → IsTrue (test x)) → IsTrue (test x)
      by true here rest = let same : e.1 ≡ x = cc in subst (λ v. IsTrue (test v)) same (both (test e.1) (all_pass test es) all).0
      by false later rest = rest later

-- one that passes is written in another's place
pub all_pass-set_value : {K X : Type 0} (test : X → Bool) (at : K → Bool) (es : List (K × X)) (w : X) → IsTrue (all_pass test es) → IsTrue (test w) → IsTrue (all_pass test (set_value at es w))
all_pass-set_value test at [] w all passes = refl
all_pass-set_value {K} {X} test at (e ∷ es) w all passes =
    by (at e.0) (all_pass-set_value test at es w (both (test e.1) (all_pass test es) all).1 passes) where
      by : (b : Bool) → IsTrue (all_pass test (set_value at es w)) → IsTrue (all_pass test (cond b ((e.0, w) ∷ es) (e ∷ set_value at es w)))
      by true rest = and_also (test w) (all_pass test es) passes (both (test e.1) (all_pass test es) all).1
      by false rest = and_also (test e.1) (all_pass test (set_value at es w)) (both (test e.1) (all_pass test es) all).0 rest

-- one that passes comes in
pub all_pass-insert_entry : {K X : Type 0} (test : X → Bool) (cmp : K → K → Ordering) (es : List (K × X)) (k : K) (w : X) → IsTrue (all_pass test es) → IsTrue (test w) → IsTrue (all_pass test (insert_entry cmp es k w))
all_pass-insert_entry test cmp [] k w all passes = and_also (test w) true passes refl
all_pass-insert_entry {K} {X} test cmp (e ∷ es) k w all passes =
    by (cmp k e.0) (all_pass-insert_entry test cmp es k w (both (test e.1) (all_pass test es) all).1 passes) where
      by : (o : Ordering) → IsTrue (all_pass test (insert_entry cmp es k w)) → IsTrue (all_pass test (match_ordering o ((k, w) ∷ e ∷ es) ((e.0, w) ∷ es) (e ∷ insert_entry cmp es k w)))
      by Less rest = and_also (test w) (all_pass test (e ∷ es)) passes all
      by Equal rest = and_also (test w) (all_pass test es) passes (both (test e.1) (all_pass test es) all).1
      by Greater rest = and_also (test e.1) (all_pass test (insert_entry cmp es k w)) (both (test e.1) (all_pass test es) all).0 rest

-- one goes out
pub all_pass-remove_entry : {K X : Type 0} (test : X → Bool) (at : K → Bool) (es : List (K × X)) → IsTrue (all_pass test es) → IsTrue (all_pass test (remove_entry at es))
all_pass-remove_entry test at [] all = refl
all_pass-remove_entry {K} {X} test at (e ∷ es) all =
    by (at e.0) (all_pass-remove_entry test at es (both (test e.1) (all_pass test es) all).1) where
      by : (b : Bool) → IsTrue (all_pass test (remove_entry at es)) → IsTrue (all_pass test (cond b es (e ∷ remove_entry at es)))
      by true rest = (both (test e.1) (all_pass test es) all).1
      by false rest = and_also (test e.1) (all_pass test (remove_entry at es)) (both (test e.1) (all_pass test es) all).0 rest

-- some go out
pub all_pass-filter : {K X : Type 0} (test : X → Bool) (kept : K × X → Bool) (es : List (K × X)) → IsTrue (all_pass test es) → IsTrue (all_pass test (filter kept es))
all_pass-filter test kept [] all = refl
all_pass-filter {K} {X} test kept (e ∷ es) all =
    by (kept e) (all_pass-filter test kept es (both (test e.1) (all_pass test es) all).1) where
      by : (b : Bool) → IsTrue (all_pass test (filter kept es)) → IsTrue (all_pass test (cond b (e ∷ filter kept es) (filter kept es)))
      by true rest = and_also (test e.1) (all_pass test (filter kept es)) (both (test e.1) (all_pass test es) all).0 rest
      by false rest = rest

-- all change so that they pass
pub all_pass-map : {K X : Type 0} (test after : X → Bool) (change : X → X) → ((x : X) → IsTrue (test x) → IsTrue (after (change x))) → (es : List (K × X)) → IsTrue (all_pass test es)
    → IsTrue (all_pass after (map (λ e. (e.0, change e.1)) es))
all_pass-map test after change keeps [] all = refl
all_pass-map {K} {X} test after change keeps (e ∷ es) all =
    and_also (after (change e.1)) (all_pass after (map (λ (e : K × X). (e.0, change e.1)) es))
    (keeps e.1 (both (test e.1) (all_pass test es) all).0) (all_pass-map test after change keeps es (both (test e.1) (all_pass test es) all).1)

-- all pass a weaker test
pub all_pass-weaker : {K X : Type 0} (test after : X → Bool) → ((x : X) → IsTrue (test x) → IsTrue (after x)) → (es : List (K × X)) → IsTrue (all_pass test es) → IsTrue (all_pass after es)
all_pass-weaker test after weaker [] all = refl
all_pass-weaker {K} {X} test after weaker (e ∷ es) all =
    and_also (after e.1) (all_pass after es) (weaker e.1 (both (test e.1) (all_pass test es) all).0) (all_pass-weaker test after weaker es (both (test e.1) (all_pass test es) all).1)
