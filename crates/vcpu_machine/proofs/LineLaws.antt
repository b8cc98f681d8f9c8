-- Laws of the lines of sections.
use Rattle.std.proofs.Common.{◌≡◌, ℕ, zero, suc, Bool, true, false, ◌&&◌, List, [], ◌∷◌, IsTrue, refl, Some, slice_get, subst, ◌≤◌, nat_le, length, sum_by, arith}
use Rattle.std.proofs.lemmas.Bool.Decides.{nat_tests}
use Rattle.std.proofs.lemmas.Bool.{false≢true}
use Rattle.std.specs.List.{list_all}
use Rattle.argo_model.specs.declared.line.Line.{Line}
use Rattle.argo_model.specs.declared.line.Line.TheVariants.{Store, Load}
use Rattle.argo_model.specs.declared.scripts.Actor.{Actor}
use Rattle.argo_model.specs.declared.scripts.Actor.TheVariants.{Vcpu, Control}
use Rattle.argo_model.specs.Runs.Script.{is_short, is_vcpu_line, is_control_line, is_lawful_for, is_generation, is_lawful, turns_of, Script}
use Rattle.vcpu_machine.specs.Line.{is_line_for}

-- both of two tests hold
both : (x y : Bool) → IsTrue (x && y) → IsTrue x × IsTrue y
both true true h = (refl, refl)
both true false h = absurd (false≢true h)
both false y h = absurd (false≢true h)

-- what holds of each value of a list holds of the one at a place
pub list_all-at : {A : Type 0} (p : A → Bool) (xs : List A) (i : ℕ) (x : A) → slice_get xs i ≡ Some x → IsTrue (list_all p xs) → IsTrue (p x)
list_all-at p [] i x here all = cc
list_all-at p (y ∷ ys) zero x here all =
    let same : y ≡ x = cc in subst (λ z. IsTrue (p z)) same (both (p y) (list_all p ys) all).0
list_all-at p (y ∷ ys) (suc i) x here all = list_all-at p ys i x here (both (p y) (list_all p ys) all).1

-- and so a line of a lawful section is one that its actor may have
pub lawful_line : (actor : Actor) (lines : List Line) (i : ℕ) (line : Line) → slice_get lines i ≡ Some line
    → IsTrue (is_lawful_for actor lines) → IsTrue (is_line_for actor line)
lawful_line (Vcpu d g) lines i line here lawful = list_all-at is_vcpu_line lines i line here (both (is_generation g) (list_all is_vcpu_line lines) lawful).1
lawful_line Control lines i line here lawful = list_all-at is_control_line lines i line here lawful

-- a store or a load is short
pub short_store : (actor : Actor) (at : ℕ) (bytes : List ℕ) → IsTrue (is_line_for actor (Store at bytes)) → IsTrue (is_short (length bytes))
short_store (Vcpu d g) at bytes lawful = lawful
short_store Control at bytes lawful = absurd (false≢true lawful)

pub short_load : (actor : Actor) (at n : ℕ) → IsTrue (is_line_for actor (Load at n)) → IsTrue (is_short n)
short_load (Vcpu d g) at n lawful = lawful
short_load Control at n lawful = absurd (false≢true lawful)

le_from : (m n : ℕ) → IsTrue (nat_le m n) → m ≤ n
le_from m n h = grind (arith, nat_tests)

-- how much a lawful script has at most
pub lawful_bounds : (s : Script) → IsTrue (is_lawful s)
    → (length s.sections ≤ 64) × (sum_by (λ x. length x.lines) s.sections ≤ 8192) × (sum_by (λ x. sum_by turns_of x.lines) s.sections ≤ 1048576)
lawful_bounds s lawful =
    let a = (both _ _ lawful).0 in
    let b = (both _ _ a).0 in
    let c = (both _ _ b).1 in
    let d = both _ _ c in
    let e = both _ _ d.0 in
    let f = both _ _ e.0 in
    (le_from (length s.sections) 64 f.0, le_from (sum_by (λ x. length x.lines) s.sections) 8192 e.1, le_from (sum_by (λ x. sum_by turns_of x.lines) s.sections) 1048576 d.1)
