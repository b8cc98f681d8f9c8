-- Laws of how domains start and how they are closed: one domain for each line, and one row for each domain.
use Rattle.std.proofs.Common.{◌≡◌, ℕ, ◌<◌, ◌==◌, nat_lt, Bool, true, false, cond, not, ◌&&◌, ◌||◌, List, [], ◌∷◌, ◌++◌, map, IsTrue, Option, Some, None, is_some, refl, sym, ap, ◌∙◌, subst, arith, fold}
use Rattle.std.specs.declared.cmp.Ordering.{Ordering}
use Rattle.std.specs.declared.cmp.Ordering.TheVariants.{Less, Equal, Greater}
use Rattle.std.specs.Ordering.{nat_cmp, match_ordering}
use Rattle.std.specs.List.{list_any, list_all}
use Rattle.std.specs.List.Sorted.{IsStrictlySortedBy}
use Rattle.std.specs.Map.{lookup, keys_of}
use Rattle.std.specs.BTreeMap.{is_at, insert_entry}
use Rattle.std.proofs.lemmas.Bool.{and_parts, not-true}
use Rattle.std.proofs.lemmas.Bool.Decides.{nat_tests}
use Rattle.argo_model.specs.declared.closed.ClosedDomain.{ClosedDomain}
use Rattle.argo_model.specs.declared.scripts.DomainLine.{DomainLine}
use Rattle.argo_model.specs.Rules.Possible.{Facts, facts_of, is_on_line, gives_page}
use Rattle.argo_model.specs.Runs.Script.{Script, has_domain, are_distinct, is_lawful, is_domain_id, is_page_count}
use Rattle.state_laws.proofs.Rising.{is_at_self}
use Rattle.shared_parts.specs.Closed.{AreRowsOf, Rise, ids_of}
use Rattle.shared_parts.specs.Domains.{Standing, MayStand, MayBeFound, AreOf, fresh, fresh_all}

-- ---- what is put in is found

eq_same : (a b : ℕ) → (a == b) ≡ true → a ≡ b
eq_same a b h = grind (arith, nat_tests)

eq_at : (d k : ℕ) (b : Bool) → (k == d) ≡ b → is_at (nat_cmp d) k ≡ b
eq_at d k true h = subst (λ n. is_at (nat_cmp d) n ≡ true) (sym (eq_same k d h)) (is_at_self d)
eq_at d k false h = grind (arith, nat_tests)

cmp_equal : (a b : ℕ) → nat_cmp a b ≡ Equal → a ≡ b
cmp_equal a b h = grind (arith, nat_tests)

module _ (k : ℕ) (w : Standing) (d : ℕ) where
  put_found : (xs : List (ℕ × Standing)) → lookup (is_at (nat_cmp d)) (insert_entry nat_cmp xs k w) ≡ cond (k == d) (Some w) (lookup (is_at (nat_cmp d)) xs)
  put_found [] = ap (λ (b : Bool). cond b (Some w) None) (eq_at d k (k == d) refl)
  put_found (e ∷ es) = by (nat_cmp k e.0) refl (put_found es) where
    past : (a b : Bool) → (a ≡ true → b ≡ true → ⊥) → (o : Option Standing) → cond b (Some e.1) (cond a (Some w) o) ≡ cond a (Some w) (cond b (Some e.1) o)
    past true true apart o = absurd (apart refl refl)
    past true false apart o = refl
    past false true apart o = refl
    past false false apart o = refl

    by : (o : Ordering) → nat_cmp k e.0 ≡ o → lookup (is_at (nat_cmp d)) (insert_entry nat_cmp es k w) ≡ cond (k == d) (Some w) (lookup (is_at (nat_cmp d)) es)
        → lookup (is_at (nat_cmp d)) (match_ordering o ((k, w) ∷ e ∷ es) ((e.0, w) ∷ es) (e ∷ insert_entry nat_cmp es k w))
        ≡ cond (k == d) (Some w) (cond (is_at (nat_cmp d) e.0) (Some e.1) (lookup (is_at (nat_cmp d)) es))
    by Less is rest = ap (λ (b : Bool). cond b (Some w) (lookup (is_at (nat_cmp d)) (e ∷ es))) (eq_at d k (k == d) refl)
    by Equal is rest = same (cmp_equal k e.0 is) (k == d) refl where
      same : k ≡ e.0 → (b : Bool) → (k == d) ≡ b → cond (is_at (nat_cmp d) e.0) (Some w) (lookup (is_at (nat_cmp d)) es) ≡ cond b (Some w) (cond (is_at (nat_cmp d) e.0) (Some e.1) (lookup (is_at (nat_cmp d)) es))
      same is true at = ap (λ (b : Bool). cond b (Some w) (lookup (is_at (nat_cmp d)) es)) (subst (λ n. is_at (nat_cmp d) n ≡ true) is (eq_at d k true at))
      same is false at =
          let no = subst (λ n. is_at (nat_cmp d) n ≡ false) is (eq_at d k false at) in
          ap (λ (b : Bool). cond b (Some w) (lookup (is_at (nat_cmp d)) es)) no ∙ sym (ap (λ (b : Bool). cond b (Some e.1) (lookup (is_at (nat_cmp d)) es)) no)
    by Greater is rest =
        ap (cond (is_at (nat_cmp d) e.0) (Some e.1)) rest
        ∙ past (k == d) (is_at (nat_cmp d) e.0) (λ here there. grind (arith, nat_tests)) (lookup (is_at (nat_cmp d)) es)

-- what these lines leave under an id, one after another
abbrev pub found_in : List DomainLine → ℕ → Option Standing → Option Standing
found_in [] d o = o
found_in (l ∷ ls) d o = found_in ls d (cond (l.id == d) (Some (fresh l)) o)

all_found : (ls : List DomainLine) (xs : List (ℕ × Standing)) (d : ℕ) → lookup (is_at (nat_cmp d)) (fold (λ xs l. insert_entry nat_cmp xs l.id (fresh l)) xs ls) ≡ found_in ls d (lookup (is_at (nat_cmp d)) xs)
all_found [] xs d = refl
all_found (l ∷ ls) xs d = all_found ls (insert_entry nat_cmp xs l.id (fresh l)) d ∙ ap (found_in ls d) (put_found l.id (fresh l) d xs)

-- ---- one line an id

absent_found : (ls : List DomainLine) (d : ℕ) (o : Option Standing) → has_domain ls d ≡ false → found_in ls d o ≡ o
absent_found [] d o none = refl
absent_found (l ∷ ls) d o none = by (l.id == d) none (absent_found ls d o) where
  by : (b : Bool) → (b || has_domain ls d) ≡ false → (has_domain ls d ≡ false → found_in ls d o ≡ o) → found_in ls d (cond b (Some (fresh l)) o) ≡ o
  by true none rest = cc
  by false none rest = rest none

absent_off : (ls : List DomainLine) (d : ℕ) → has_domain ls d ≡ false → list_any (λ l. (l.id == d) && l.on) ls ≡ false
absent_off [] d none = refl
absent_off (l ∷ ls) d none = by (l.id == d) none (absent_off ls d) where
  by : (b : Bool) → (b || has_domain ls d) ≡ false → (has_domain ls d ≡ false → list_any (λ l. (l.id == d) && l.on) ls ≡ false)
      → ((b && l.on) || list_any (λ l. (l.id == d) && l.on) ls) ≡ false
  by true none rest = cc
  by false none rest = rest none

or_false : (b c : Bool) → c ≡ false → b ≡ (b || c)
or_false true c none = refl
or_false false c none = sym none

module _ (gone : List ℕ) (d : ℕ) where
  abbrev facts : List DomainLine → Facts
  facts ls = record { domains = ls; destroyed = gone }

  first_fits : (l : DomainLine) (ls : List DomainLine) → (l.id == d) ≡ true → has_domain ls d ≡ false → MayStand (facts (l ∷ ls)) d (fresh l)
  first_fits l ls is none = record {
    known = ap (λ (b : Bool). b || has_domain ls d) is;
    on = or_false l.on (list_any (λ l. (l.id == d) && l.on) ls) (absent_off ls d none) ∙ sym (ap (λ (b : Bool). (b && l.on) || list_any (λ l. (l.id == d) && l.on) ls) is);
    pages = λ page below. ap (λ (b : Bool). (b && nat_lt page l.pages) || gives_page (facts ls) d page) is ∙ ap (λ (b : Bool). b || gives_page (facts ls) d page) (is_below page l.pages below);
    gone = λ gone. cc;
    anew = λ anew. absurd (anew refl);
  } where
    is_below : (a b : ℕ) → a < b → nat_lt a b ≡ true
    is_below a b h = grind (arith, nat_tests)

  later_fits : (l : DomainLine) (ls : List DomainLine) → (l.id == d) ≡ false → (o : Option Standing) → MayBeFound (facts ls) d o → MayBeFound (facts (l ∷ ls)) d o
  later_fits l ls is None none = ap (λ (b : Bool). b || has_domain ls d) is ∙ none
  later_fits l ls is (Some x) s = record {
    known = ap (λ (b : Bool). b || has_domain ls d) is ∙ s.known;
    on = s.on ∙ sym (ap (λ (b : Bool). (b && l.on) || is_on_line (facts ls) d) is);
    pages = λ page below. ap (λ (b : Bool). (b && nat_lt page l.pages) || gives_page (facts ls) d page) is ∙ s.pages page below;
    gone = s.gone;
    anew = s.anew;
  }

  lines_fit : (ls : List DomainLine) → are_distinct ls ≡ true → MayBeFound (facts ls) d (found_in ls d None)
  lines_fit [] distinct = refl
  lines_fit (l ∷ ls) distinct = by (l.id == d) refl (and_parts (not (has_domain ls l.id)) (are_distinct ls) distinct) (lines_fit ls) where
    by : (b : Bool) → (l.id == d) ≡ b → (not (has_domain ls l.id) ≡ true) × (are_distinct ls ≡ true)
        → (are_distinct ls ≡ true → MayBeFound (facts ls) d (found_in ls d None)) → MayBeFound (facts (l ∷ ls)) d (found_in ls d (cond b (Some (fresh l)) None))
    by true is parts rest =
        let none = subst (λ k. has_domain ls k ≡ false) (eq_same l.id d is) (not-true (has_domain ls l.id) parts.0) in
        subst (MayBeFound (facts (l ∷ ls)) d) (sym (absent_found ls d (Some (fresh l)) none)) (first_fits l ls is none)
    by false is parts rest = later_fits l ls is (found_in ls d None) (rest parts.1)

distinct_of : (s : Script) → IsTrue (is_lawful s) → are_distinct s.domains ≡ true
distinct_of s lawful =
    let all = and_parts _ _ lawful in
    let known = and_parts _ _ all.0 in
    let within = and_parts _ _ known.0 in
    let few = and_parts _ _ within.0 in
    let lines = and_parts _ _ few.0 in
    (and_parts (list_all (λ (l : DomainLine). is_domain_id l.id && is_page_count l.pages) s.domains) (are_distinct s.domains) lines.1).1

-- the domains of a script, as they start
pub start_fits : (f : Facts) (s : Script) → f ≡ facts_of s → IsTrue (is_lawful s) → AreOf f (fresh_all s.domains)
start_fits f s is lawful =
    subst (λ g. AreOf g (fresh_all s.domains)) (sym is) (λ d.
    subst (MayBeFound (facts_of s) d) (sym (all_found s.domains [] d)) (lines_fit (facts_of s).destroyed d s.domains (distinct_of s lawful)))

-- ---- a row a domain

key_found : (d : ℕ) (xs : List (ℕ × Standing)) → list_any (λ k. k == d) (keys_of xs) ≡ is_some (lookup (is_at (nat_cmp d)) xs)
key_found d [] = refl
key_found d (e ∷ es) = by (e.0 == d) refl (key_found d es) where
  by : (b : Bool) → (e.0 == d) ≡ b → list_any (λ k. k == d) (keys_of es) ≡ is_some (lookup (is_at (nat_cmp d)) es)
      → ((e.0 == d) || list_any (λ k. k == d) (keys_of es)) ≡ is_some (cond (is_at (nat_cmp d) e.0) (Some e.1) (lookup (is_at (nat_cmp d)) es))
  by b is rest = joined b is (eq_at d e.0 b is) rest where
    joined : (b : Bool) → (e.0 == d) ≡ b → is_at (nat_cmp d) e.0 ≡ b → list_any (λ k. k == d) (keys_of es) ≡ is_some (lookup (is_at (nat_cmp d)) es)
        → ((e.0 == d) || list_any (λ k. k == d) (keys_of es)) ≡ is_some (cond (is_at (nat_cmp d) e.0) (Some e.1) (lookup (is_at (nat_cmp d)) es))
    joined true is at rest = ap (λ (b : Bool). b || list_any (λ k. k == d) (keys_of es)) is ∙ sym (ap (λ (b : Bool). is_some (cond b (Some e.1) (lookup (is_at (nat_cmp d)) es))) at)
    joined false is at rest = ap (λ (b : Bool). b || list_any (λ k. k == d) (keys_of es)) is ∙ rest ∙ sym (ap (λ (b : Bool). is_some (cond b (Some e.1) (lookup (is_at (nat_cmp d)) es))) at)

known_found : (f : Facts) (d : ℕ) (o : Option Standing) → MayBeFound f d o → is_some o ≡ has_domain f.domains d
known_found f d None none = sym none
known_found f d (Some x) s = sym s.known

nothing_after : (ids : List ℕ) → ids ++ [] ≡ ids
nothing_after [] = refl
nothing_after (x ∷ xs) = ap (λ (ys : List ℕ). x ∷ ys) (nothing_after xs)

ids_are : (xs rest : List (ℕ × Standing)) (rows : List ClosedDomain) → ids_of rows ++ keys_of rest ≡ keys_of xs → rest ≡ [] → ids_of rows ≡ keys_of xs
ids_are xs rest rows same none =
    sym (nothing_after (ids_of rows)) ∙ subst (λ (es : List (ℕ × Standing)). ids_of rows ++ keys_of es ≡ keys_of xs) none same

pub rows_are : (f : Facts) (xs rest : List (ℕ × Standing)) (rows : List ClosedDomain) → AreOf f xs → ids_of rows ++ keys_of rest ≡ keys_of xs → rest ≡ [] → AreRowsOf f.domains rows
rows_are f xs rest rows are same none d =
    ap (list_any (λ k. k == d)) (ids_are xs rest rows same none) ∙ key_found d xs ∙ known_found f d (lookup (is_at (nat_cmp d)) xs) (are d)

pub rows_rise : (xs rest : List (ℕ × Standing)) (rows : List ClosedDomain) → IsStrictlySortedBy nat_cmp (keys_of xs) → ids_of rows ++ keys_of rest ≡ keys_of xs → rest ≡ [] → Rise rows
rows_rise xs rest rows rise same none = subst (IsStrictlySortedBy nat_cmp) (sym (ids_are xs rest rows same none)) rise

pub rows_more : (id : ℕ) (ids rest all : List ℕ) → ids ++ id ∷ rest ≡ all → (ids ++ id ∷ []) ++ rest ≡ all
rows_more id ids rest all same = one_more id ids rest ∙ same where
  one_more : (id : ℕ) (ids rest : List ℕ) → (ids ++ id ∷ []) ++ rest ≡ ids ++ id ∷ rest
  one_more id [] rest = refl
  one_more id (x ∷ ids) rest = ap (λ (ys : List ℕ). x ∷ ys) (one_more id ids rest)
