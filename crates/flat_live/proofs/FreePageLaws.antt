-- Laws of the table of the pages that are taken.
use Rattle.std.proofs.Common.{◌≡◌, ◌≢◌, ℕ, ◌/◌, Bool, true, false, cond, ◌&&◌, ◌||◌, not, nat_lt, ◌==◌, List, [], ◌∷◌, length, replicate, slice_index_or, slice_set, ⊎_elim, refl, sym, ap, ◌∙◌, arith}
use Rattle.std.proofs.lemmas.Bool.{cases_eq, cases_lt}
use Rattle.std.proofs.lemmas.Bool.Decides.{nat_tests}
use Rattle.std.proofs.lemmas.List.{get_or-set_same, get_or-set_other, get_or-replicate, get_or_past, length-replicate, length-set}
use Rattle.std.specs.List.{list_all, list_any}
use Rattle.std.specs.BTreeMap.{is_at}
use Rattle.argo_base.specs.declared.ring_key.RingKey.{RingKey}
use Rattle.argo_base.specs.Match.{key_cmp}
use Rattle.argo_model.specs.Rules.State.{Live}
use Rattle.argo_model.specs.Rules.State.{Ring}
use Rattle.argo_model.specs.Rules.State.{has_page}
use Rattle.argo_model.specs.Rules.Register.{has_number, all_differ, is_free_for, are_free_for}
use Rattle.flat_live.specs.FreePages.{is_taken, with_pages, with_others, are_free_in}

-- ---- tests

or_true : (a : Bool) → (a || true) ≡ true
or_true true = refl
or_true false = refl

or_false : (a : Bool) → (a || false) ≡ a
or_false true = refl
or_false false = refl

or_assoc : (a b c : Bool) → ((a || b) || c) ≡ (a || (b || c))
or_assoc true b c = refl
or_assoc false b c = refl

neither : (a b : Bool) → not (not a || b) ≡ (a && not b)
neither true b = refl
neither false b = refl

-- a page that is free now and differs from one, and whose followers do
free_and_apart : (a b c d : Bool) → (not (a || b) && (c && not d)) ≡ ((not a && c) && not (b || d))
free_and_apart true b c d = refl
free_and_apart false true true d = refl
free_and_apart false true false d = refl
free_and_apart false false c d = refl

free_then : (a c d e : Bool) → (a && ((c && d) && e)) ≡ ((a && c) && (d && e))
free_then true true d e = refl
free_then true false d e = refl
free_then false c d e = refl

all_same : {A : Type 0} (f g : A → Bool) → ((x : A) → f x ≡ g x) → (xs : List A) → list_all f xs ≡ list_all g xs
all_same f g same [] = refl
all_same f g same (x ∷ xs) = ap (λ b. b && list_all f xs) (same x) ∙ ap (λ b. g x && b) (all_same f g same xs)

-- ---- the table

-- a page that is taken is, and the others are as they were
taken-set : (t : List Bool) (p q : ℕ) → is_taken (slice_set t p true) q ≡ (is_taken t q || (p == q))
taken-set t p q = ⊎_elim
    (λ same. let here : (p == q) ≡ true = grind (arith, nat_tests) in
    ap (λ x. slice_index_or (slice_set t p true) x true) (sym same) ∙ at_page ∙ sym (or_true (is_taken t q)) ∙ ap (λ b. is_taken t q || b) (sym here))
    (λ apart. let ne : q ≢ p = λ e. apart (sym e) in let there : (p == q) ≡ false = grind (arith, nat_tests) in
    get_or-set_other t p q true true ne ∙ sym (or_false (is_taken t q)) ∙ ap (λ b. is_taken t q || b) (sym there))
    (cases_eq p q) where
      at_page : slice_index_or (slice_set t p true) p true ≡ true
      at_page = ⊎_elim (λ inside. get_or-set_same t p true true inside) (λ past. get_or_past (slice_set t p true) p true (rw length-set past)) (cases_lt p (length t))

taken-with_pages : (t : List Bool) (ps : List ℕ) (q : ℕ) → is_taken (with_pages t ps) q ≡ (is_taken t q || has_number ps q)
taken-with_pages t [] q = sym (or_false (is_taken t q))
taken-with_pages t (p ∷ ps) q =
    taken-with_pages (slice_set t p true) ps q ∙ ap (λ b. b || has_number ps q) (taken-set t p q) ∙ or_assoc (is_taken t q) (p == q) (has_number ps q)

taken-with_others : (key : RingKey) (t : List Bool) (es : List (RingKey × Ring)) (q : ℕ)
    → is_taken (with_others key t es) q ≡ (is_taken t q || list_any (λ e. not (is_at (key_cmp key) e.0) && has_number e.1.pages q) es)
taken-with_others key t [] q = sym (or_false (is_taken t q))
taken-with_others key t (e ∷ es) q =
    taken-with_others key (cond (is_at (key_cmp key) e.0) t (with_pages t e.1.pages)) es q
    ∙ ap (λ b. b || list_any (λ (e : RingKey × Ring). not (is_at (key_cmp key) e.0) && has_number e.1.pages q) es) (by (is_at (key_cmp key) e.0))
    ∙ or_assoc (is_taken t q) (not (is_at (key_cmp key) e.0) && has_number e.1.pages q) (list_any (λ (e : RingKey × Ring). not (is_at (key_cmp key) e.0) && has_number e.1.pages q) es) where
      by : (b : Bool) → is_taken (cond b t (with_pages t e.1.pages)) q ≡ (is_taken t q || (not b && has_number e.1.pages q))
      by true = sym (or_false (is_taken t q))
      by false = taken-with_pages t e.1.pages q

-- a table of which nothing is taken yet
taken-new : (count q : ℕ) → is_taken (replicate count false) q ≡ not (nat_lt q count)
taken-new count q = ⊎_elim
    (λ inside. get_or-replicate count q false true inside ∙ grind (arith, nat_tests))
    (λ past. get_or_past (replicate count false) q true (rw length-replicate past) ∙ grind (arith, nat_tests))
    (cases_lt q count)

-- ---- the pages that are asked for

numbers_apart : (p q : ℕ) → (p == q) ≡ (q == p)
numbers_apart p q = ⊎_elim (λ same. grind (arith, nat_tests)) (λ apart. let ne : q ≢ p = λ e. apart (sym e) in grind (arith, nat_tests)) (cases_eq p q)

still_free : (t : List Bool) (p : ℕ) (qs : List ℕ)
    → list_all (λ q. not (is_taken (slice_set t p true) q)) qs ≡ (list_all (λ q. not (is_taken t q)) qs && not (has_number qs p))
still_free t p [] = refl
still_free t p (q ∷ qs) =
    ap (λ b. not b && list_all (λ q. not (is_taken (slice_set t p true) q)) qs) (taken-set t p q ∙ ap (λ b. is_taken t q || b) (numbers_apart p q))
    ∙ ap (λ b. not (is_taken t q || (q == p)) && b) (still_free t p qs)
    ∙ free_and_apart (is_taken t q) (q == p) (list_all (λ q. not (is_taken t q)) qs) (has_number qs p)

free_in-is : (t : List Bool) (ps : List ℕ) → are_free_in t ps ≡ (list_all (λ p. not (is_taken t p)) ps && all_differ ps)
free_in-is t [] = refl
free_in-is t (p ∷ ps) =
    ap (λ b. not (is_taken t p) && b) (free_in-is (slice_set t p true) ps)
    ∙ ap (λ b. not (is_taken t p) && (b && all_differ ps)) (still_free t p ps)
    ∙ free_then (not (is_taken t p)) (list_all (λ q. not (is_taken t q)) ps) (not (has_number ps p)) (all_differ ps)

not_taken : (live : Live) (key : RingKey) (p : ℕ)
    → not (is_taken (with_others key (replicate (length live.bytes / 4096) false) live.rings) p) ≡ is_free_for live key p
not_taken live key p =
    ap not (taken-with_others key (replicate (length live.bytes / 4096) false) live.rings p
    ∙ ap (λ b. b || list_any (λ (e : RingKey × Ring). not (is_at (key_cmp key) e.0) && has_number e.1.pages p) live.rings) (taken-new (length live.bytes / 4096) p))
    ∙ neither (has_page live p) (list_any (λ (e : RingKey × Ring). not (is_at (key_cmp key) e.0) && has_number e.1.pages p) live.rings)

-- so the table of the pages of all other rings tells which pages a ring may stand on
pub free_by_table : (live : Live) (key : RingKey) (pages : List ℕ)
    → are_free_in (with_others key (replicate (length live.bytes / 4096) false) live.rings) pages ≡ are_free_for live key pages
free_by_table live key pages =
    free_in-is (with_others key (replicate (length live.bytes / 4096) false) live.rings) pages
    ∙ ap (λ b. b && all_differ pages) (all_same (λ p. not (is_taken (with_others key (replicate (length live.bytes / 4096) false) live.rings) p)) (is_free_for live key) (not_taken live key) pages)
