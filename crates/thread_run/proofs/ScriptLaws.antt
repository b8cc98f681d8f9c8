-- Laws of lawful scripts: each section may be worked through.
use Rattle.std.proofs.Common.{◌≡◌, ℕ, suc, zero, ◌<◌, ◌≤◌, Bool, true, false, ◌||◌, ◌==◌, nat_le, List, [], ◌∷◌, ◌++◌, length, map, sum_by, slice_get, slice_index_or, Some, IsTrue, flat_map, refl, sym, ap, subst, ◌∙◌, arith}
use Rattle.std.specs.List.{list_any}
use Rattle.std.proofs.lemmas.Bool.{and_parts}
use Rattle.std.proofs.lemmas.Bool.Decides.{nat_tests}
use Rattle.std.proofs.lemmas.List.Sums.{sum_by-cons}
use Rattle.argo_model.specs.declared.scripts.Actor.{Actor}
use Rattle.argo_model.specs.declared.line.Line.{Line}
use Rattle.argo_model.specs.declared.line.Line.TheVariants.{Store, Load, Op, Await, Recv, Destroy, Reset, Create}
use Rattle.argo_model.specs.Rules.Possible.{Facts, facts_of, destroyed_by, is_destroyed}
use Rattle.argo_model.specs.Runs.Script.{Script, Section, turns_of, is_lawful}
use Rattle.thread_run.specs.Ends.{LinesMayEnd}
use Rattle.thread_run.specs.Workers.{AllMayWork}

at_most : (a b : ℕ) → nat_le a b ≡ true → a ≤ b
at_most a b h = grind (arith, nat_tests)

-- one of a list has no more of what is counted than all of them together
at_most_all : (g : Section → ℕ) (ss : List Section) (k : ℕ) (d : Section) → k < length ss → g (slice_index_or ss k d) ≤ sum_by g ss
at_most_all g [] k d below = absurd (omega (arith, below))
at_most_all g (s ∷ ss) zero d below = rw sum_by-cons (omega arith)
at_most_all g (s ∷ ss) (suc k) d below =
    let h = at_most_all g ss k d (omega (arith, below)) in rw sum_by-cons (omega (arith, h))

actor_at : (ss : List Section) (k : ℕ) (d : Section) → k < length ss → slice_get (map (λ x. x.actor) ss) k ≡ Some (slice_index_or ss k d).actor
actor_at [] k d below = absurd (omega (arith, below))
actor_at (s ∷ ss) zero d below = refl
actor_at (s ∷ ss) (suc k) d below = actor_at ss k d (omega (arith, below))

-- the facts name each of these domains
abbrev NamesAll : Facts → List ℕ → Type 0
NamesAll f ds = (d : ℕ) → list_any (λ x. x == d) ds ≡ true → IsTrue (is_destroyed f d)

or_more : (b c e : Bool) → (c ≡ true → e ≡ true) → (b || c) ≡ true → (b || e) ≡ true
or_more true c e more h = refl
or_more false c e more h = more h

any_left : (d : ℕ) (xs ys : List ℕ) → list_any (λ x. x == d) xs ≡ true → list_any (λ x. x == d) (xs ++ ys) ≡ true
any_left d [] ys h = cc
any_left d (x ∷ xs) ys h = or_more (x == d) (list_any (λ x. x == d) xs) (list_any (λ x. x == d) (xs ++ ys)) (any_left d xs ys) h

or_right : (b c : Bool) → c ≡ true → (b || c) ≡ true
or_right true c h = refl
or_right false c h = h

any_right : (d : ℕ) (xs ys : List ℕ) → list_any (λ x. x == d) ys ≡ true → list_any (λ x. x == d) (xs ++ ys) ≡ true
any_right d [] ys h = h
any_right d (x ∷ xs) ys h = or_right (x == d) (list_any (λ x. x == d) (xs ++ ys)) (any_right d xs ys h)

same_number : (d : ℕ) → (d == d) ≡ true
same_number d = grind (arith, nat_tests)

any_first : (d : ℕ) (ds : List ℕ) → list_any (λ x. x == d) (d ∷ ds) ≡ true
any_first d ds = ap (λ b. b || list_any (λ x. x == d) ds) (same_number d)

lines_end : (f : Facts) (ls : List Line) → NamesAll f (flat_map destroyed_by ls) → LinesMayEnd f ls
lines_end f [] names = tt
lines_end f (Store at bytes ∷ ls) names = (refl, lines_end f ls names)
lines_end f (Load at n ∷ ls) names = (refl, lines_end f ls names)
lines_end f (Op c a1 a2 a3 a4 ∷ ls) names = (refl, lines_end f ls names)
lines_end f (Await turns ∷ ls) names = (refl, lines_end f ls names)
lines_end f (Recv page len ∷ ls) names = (refl, lines_end f ls names)
lines_end f (Destroy d ∷ ls) names =
    (names d (any_first d (flat_map destroyed_by ls)), lines_end f ls (λ e h. names e (any_right e (d ∷ []) (flat_map destroyed_by ls) h)))
lines_end f (Reset d ∷ ls) names = (refl, lines_end f ls names)
lines_end f (Create d ∷ ls) names = (refl, lines_end f ls names)

ends_at : (f : Facts) (ss : List Section) (k : ℕ) (d : Section) → NamesAll f (flat_map (λ x. flat_map destroyed_by x.lines) ss) → k < length ss
    → LinesMayEnd f (slice_index_or ss k d).lines
ends_at f [] k d names below = absurd (omega (arith, below))
ends_at f (s ∷ ss) zero d names below =
    lines_end f s.lines (λ e h. names e (any_left e (flat_map destroyed_by s.lines) (flat_map (λ x. flat_map destroyed_by x.lines) ss) h))
ends_at f (s ∷ ss) (suc k) d names below =
    ends_at f ss k d (λ e h. names e (any_right e (flat_map destroyed_by s.lines) (flat_map (λ x. flat_map destroyed_by x.lines) ss) h)) (omega (arith, below))

-- how many lines and turns a lawful script has at most
bounds : (s : Script) → IsTrue (is_lawful s)
    → (sum_by (λ x. length x.lines) s.sections ≤ 8192) × (sum_by (λ x. sum_by turns_of x.lines) s.sections ≤ 1048576)
bounds s lawful =
    let all = and_parts _ _ lawful in
    let known = and_parts _ _ all.0 in
    let within = and_parts _ _ known.0 in
    let turns = and_parts _ _ within.1 in
    let lines = and_parts _ _ turns.0 in
    (at_most (sum_by (λ x. length x.lines) s.sections) 8192 lines.1, at_most (sum_by (λ x. sum_by turns_of x.lines) s.sections) 1048576 turns.1)

-- a world that knows the script as its plan may work through all of its sections
pub all_may : (f : Facts) (actors : List Actor) (s : Script) → f ≡ facts_of s → actors ≡ map (λ x. x.actor) s.sections → IsTrue (is_lawful s) → AllMayWork f actors s.sections
all_may f actors s is are lawful = λ k d below.
    let most = bounds s lawful in
    let lines = at_most_all (λ x. length x.lines) s.sections k d below in
    let turns = at_most_all (λ x. sum_by turns_of x.lines) s.sections k d below in
    record {
      lines = omega (arith, lines, most.0);
      turns = omega (arith, turns, most.1);
      actor = ap (λ (xs : List Actor). slice_get xs k) are ∙ actor_at s.sections k d below;
      ends = subst (λ (g : Facts). LinesMayEnd g (slice_index_or s.sections k d).lines) (sym is) (ends_at (facts_of s) s.sections k d (λ e h. h) below);
    }
