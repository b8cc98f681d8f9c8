-- Laws of what a world's first ledger knows of its script: each section is of a known domain, and there are not too many.
use Rattle.std.proofs.Common.{◌≡◌, ℕ, ◌+◌, ◌≤◌, nat_le, true, List, [], ◌∷◌, length, map, All, IsTrue, sym, ap, ◌∙◌, subst, arith}
use Rattle.std.specs.List.{list_all}
use Rattle.std.proofs.lemmas.Bool.{and_parts}
use Rattle.std.proofs.lemmas.Bool.Decides.{nat_tests}
use Rattle.std.proofs.lemmas.List.{length-map}
use Rattle.std.proofs.lemmas.List.Elements.{All-nil, All-cons}
use Rattle.argo_model.specs.declared.scripts.Actor.{Actor}
use Rattle.argo_model.specs.declared.scripts.DomainLine.{DomainLine}
use Rattle.argo_model.specs.Rules.Possible.{Facts, facts_of}
use Rattle.argo_model.specs.Runs.Script.{Script, Section, is_lawful, is_known_actor, is_known_section, names_known}
use Rattle.shared_world.specs.Plans.{IsPlan}

all_known : (ds : List DomainLine) (xs : List Section) → list_all (is_known_section ds) xs ≡ true → All (λ actor. IsTrue (is_known_actor ds actor)) (map (λ x. x.actor) xs)
all_known ds [] known = All-nil (λ actor. IsTrue (is_known_actor ds actor))
all_known ds (x ∷ xs) known =
    let parts = and_parts (is_known_section ds x) (list_all (is_known_section ds) xs) known in
    All-cons (λ actor. IsTrue (is_known_actor ds actor)) x.actor (map (λ x. x.actor) xs)
    (and_parts (is_known_actor ds x.actor) (list_all (names_known ds) x.lines) parts.0).0 (all_known ds xs parts.1)

at_most : (a b : ℕ) → nat_le a b ≡ true → a ≤ b
at_most a b h = grind (arith, nat_tests)

-- a lawful script has at most 64 sections
pub few_sections : (s : Script) → IsTrue (is_lawful s) → length s.sections ≤ 64
few_sections s lawful =
    let all = and_parts _ _ lawful in
    let known = and_parts _ _ all.0 in
    let within = and_parts _ _ known.0 in
    let turns = and_parts _ _ within.1 in
    let lines = and_parts _ _ turns.0 in
    let control = and_parts _ _ lines.0 in
    at_most (length s.sections) 64 control.0

-- what the first ledger knows of a lawful script
pub plan_of : (f : Facts) (actors : List Actor) (parts : ℕ) (s : Script)
    → f ≡ facts_of s → actors ≡ map (λ x. x.actor) s.sections → parts ≡ length s.sections + 1 → IsTrue (is_lawful s) → IsPlan f actors parts
plan_of f actors parts s is are count lawful =
    let counted : length actors ≡ length s.sections = ap (λ (xs : List Actor). length xs) are ∙ length-map s.sections (λ x. x.actor) in
    let few = few_sections s lawful in
    record {
      known = subst (λ (g : Facts). All (λ actor. IsTrue (is_known_actor g.domains actor)) actors) (sym is)
          (subst (λ (xs : List Actor). All (λ actor. IsTrue (is_known_actor s.domains actor)) xs) (sym are) (all_known s.domains s.sections (and_parts _ _ lawful).1));
      parts_are = omega (arith, count, counted);
      few = omega (arith, few, counted);
    }
