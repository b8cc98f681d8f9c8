-- Laws of runs.
use Rattle.std.proofs.Common.{◌≡◌, ℕ, suc, ◌<◌, ◌≤◌, false, List, [], ◌∷◌, length, fold, slice_get, IsTrue, Option, Some, None, refl, ◌∙◌, arith}
use Rattle.std.specs.List.{list_all}
use Rattle.std.proofs.lemmas.List.{length-set, length-map}
use Rattle.argo_model.specs.Runs.Script.{Script, is_lawful}
use Rattle.argo_model.specs.Runs.Run.{Progress, Course, Turn, at_first_line, start, run, step, after_turn, next_turn, is_unfinished, has_lines, is_finished}
use Rattle.argo_machine.proofs.TestLaws.{both, le_from}

after_turn-sections : (c : Course) (v : ℕ) (t : Option Turn) → length (after_turn c v t).sections ≡ length c.sections
after_turn-sections c v None = refl
after_turn-sections c v (Some t) = length-set c.sections v t.progress

steps-sections : (c : Course) (schedule : List ℕ) → length (fold step c schedule).sections ≡ length c.sections
steps-sections c [] = refl
steps-sections c (v ∷ vs) = steps-sections (step c v) vs ∙ after_turn-sections c v (next_turn c v)

-- a run has the sections of its script
pub run-sections : (s : Script) (schedule : List ℕ) → length (run s schedule).sections ≡ length s.sections
run-sections s schedule = steps-sections (start s) schedule ∙ length-map s.sections at_first_line

-- where no section is open, all are finished
pub none_unfinished : (ps : List Progress) → ((v : ℕ) → v < length ps → is_unfinished (slice_get ps v) ≡ false) → IsTrue (list_all is_finished ps)
none_unfinished [] none = refl
none_unfinished (p ∷ ps) none =
    let first : has_lines p.left ≡ false = none 0 (omega arith) in
    let rest = none_unfinished ps (λ v below. none (suc v) (omega arith)) in
    rw first rest

-- a lawful script has at most 64 sections
pub few_sections : (s : Script) → IsTrue (is_lawful s) → length s.sections ≤ 64
few_sections s lawful =
    let a = (both _ _ lawful).0 in
    let b = (both _ _ a).0 in
    let c = (both _ _ b).1 in
    let d = both _ _ c in
    let e = both _ _ d.0 in
    let f = both _ _ e.0 in
    le_from (length s.sections) 64 f.0
