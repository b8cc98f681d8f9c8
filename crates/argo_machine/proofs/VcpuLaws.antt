-- Laws of the virtual CPUs at the start, and of how many steps a script may take.
use Rattle.std.proofs.Common.{◌≡◌, ℕ, zero, suc, slice_get, Some, ◌+◌, ◌*◌, ◌≤◌, IsTrue, List, [], ◌∷◌, ◌++◌, length, map, sum_by, sym, ap, ◌∙◌, subst, arith}
use Rattle.std.proofs.lemmas.List.{map_push}
use Rattle.std.proofs.lemmas.List.Sums.{sum_by-cons, sum_by_push}
use Rattle.argo_model.specs.declared.line.Line.{Line}
use Rattle.argo_model.specs.declared.line.Line.TheVariants.{Store, Load, Op, Await, Recv, Destroy, Reset, Create}
use Rattle.argo_model.specs.Runs.Script.{Script, Section, turns_of, is_lawful}
use Rattle.argo_model.specs.Runs.Run.{Progress, at_first_line}
use Rattle.vcpu_machine.specs.Steps.{most_steps}
use Rattle.vcpu_machine.specs.Vcpu.{VcpuAt, StandsAt, left_of}
use Rattle.argo_machine.specs.Kept.{AllStand}
use Rattle.argo_machine.specs.Vcpus.{most_of, AreVcpusOf}
use Rattle.argo_machine.proofs.TestLaws.{both, le_from}

all_stand-push : (xs : List VcpuAt) (ps : List Progress) (x : VcpuAt) (p : Progress) → AllStand xs ps → StandsAt x p → AllStand (xs ++ x ∷ []) (ps ++ p ∷ [])
all_stand-push [] [] x p all stands = (stands, tt)
all_stand-push [] (q ∷ ps) x p all stands = absurd all
all_stand-push (y ∷ xs) [] x p all stands = absurd all
all_stand-push (y ∷ xs) (q ∷ ps) x p all stands = (all.0, all_stand-push xs ps x p all.1 stands)

-- one more
pub one_more : (xs : List VcpuAt) (ss : List Section) (x : VcpuAt) → AreVcpusOf xs ss → StandsAt x (at_first_line x.part) → left_of x ≤ most_of x.part
    → AreVcpusOf (xs ++ x ∷ []) (ss ++ x.part ∷ [])
one_more xs ss x are stands left =
    record {
      sections_are = map_push (λ y. y.part) xs x ∙ ap (λ ys. ys ++ x.part ∷ []) are.sections_are;
      stand = let P : List Progress → Type 0 = λ ps. AllStand (xs ++ x ∷ []) ps in
          subst P (sym (map_push at_first_line ss x.part)) (all_stand-push xs (map at_first_line ss) x (at_first_line x.part) are.stand stands);
      left = rw (sum_by_push, sum_by_push) (omega (arith, are.left));
    }

-- a line takes 8,700 steps at most, or one for each of its turns
line_bound : (l : Line) → most_steps l ≤ 8700 + turns_of l
line_bound (Store at bytes) = omega arith
line_bound (Load at n) = omega arith
line_bound (Op c a1 a2 a3 a4) = omega arith
line_bound (Await turns) = omega arith
line_bound (Recv page len) = omega arith
line_bound (Destroy d) = omega arith
line_bound (Reset d) = omega arith
line_bound (Create d) = omega arith

lines_bound : (ls : List Line) → sum_by most_steps ls ≤ 8700 * length ls + sum_by turns_of ls
lines_bound [] = omega arith
lines_bound (l ∷ ls) = rw (sum_by-cons, sum_by-cons) (omega (arith, line_bound l, lines_bound ls))

sections_bound : (xs : List Section) → sum_by most_of xs ≤ 8700 * sum_by (λ x. length x.lines) xs + sum_by (λ x. sum_by turns_of x.lines) xs
sections_bound [] = omega arith
sections_bound (x ∷ xs) = rw (sum_by-cons, sum_by-cons, sum_by-cons) (omega (arith, lines_bound x.lines, sections_bound xs))

-- how much a lawful script has at most
pub lawful_bounds : (s : Script) → IsTrue (is_lawful s)
    → (sum_by (λ x. length x.lines) s.sections ≤ 8192) × (sum_by (λ x. sum_by turns_of x.lines) s.sections ≤ 1048576)
lawful_bounds s lawful =
    let a = (both _ _ lawful).0 in
    let b = (both _ _ a).0 in
    let c = (both _ _ b).1 in
    let d = both _ _ c in
    let e = both _ _ d.0 in
    (le_from (sum_by (λ x. length x.lines) s.sections) 8192 e.1, le_from (sum_by (λ x. sum_by turns_of x.lines) s.sections) 1048576 d.1)

-- it takes less than 2^27 steps
pub steps_bound : (s : Script) → IsTrue (is_lawful s) → sum_by most_of s.sections ≤ 134217727
steps_bound s lawful = let b = lawful_bounds s lawful in omega (arith, sections_bound s.sections, b.0, b.1)

-- a section of a list has no more of what is counted than all of them together
pub at_most_all : (f : Section → ℕ) (xs : List Section) (i : ℕ) (x : Section) → slice_get xs i ≡ Some x → f x ≤ sum_by f xs
at_most_all f [] i x here = cc
at_most_all f (y ∷ ys) zero x here =
    let e : x ≡ y = cc in
    let n : f x ≡ f y = ap f e in
    rw sum_by-cons (omega arith)
at_most_all f (y ∷ ys) (suc i) x here = let h = at_most_all f ys i x here in rw sum_by-cons (omega arith)
