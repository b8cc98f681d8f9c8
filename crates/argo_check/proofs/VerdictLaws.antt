-- Laws of the verdict on a report.
use Rattle.std.proofs.Common.{◌≡◌, ℕ, ◌⊎◌, inl, inr, Bool, true, false, ◌==◌, ◌&&◌, ◌||◌, IsTrue, List, ◌++◌, Result, Ok, refl, ap, ◌∙◌, subst, arith}
use Rattle.std.proofs.lemmas.Bool.Decides.{nat_tests}
use Rattle.argo_model.specs.declared.closing.Run.{Run}
use Rattle.argo_model.specs.declared.closing.Final.{Final}
use Rattle.argo_model.specs.Runs.Script.{Script, is_lawful}
use Rattle.argo_model.specs.Runs.Run.{IsComplete}
use Rattle.argo_model.specs.Runs.Final.{final_of, schedule_of}
use Rattle.argo_model.specs.Runs.Report.{report_of, schedule_line}
use Rattle.report_read.specs.Schedule.{Names, IsRefusal}
use Rattle.argo_check.specs.Differences.{DifferFirstIn}
use Rattle.argo_check.specs.Judged.{OnlyNames}
use Rattle.argo_check.specs.Verdicts.{HasSchedule, due_report, IsRight, IsWrongAt}
use Rattle.argo_check.proofs.ReplayLaws.{both}

-- no schedule is named, or the first line is another
pub refused : (s : Script) (report : List ℕ) (line : ℕ) → IsRefusal s.version report line → IsWrongAt s report line
refused s report line (inl first) = inl (first.0, first.1)
refused s report line (inr second) = inr (inl (second.0, (second.1, λ runs h. second.2 runs h.names)))

-- the runs that were read
pub only_names : (version : ℕ) (report : List ℕ) (runs : List Run) → Names version runs report
    → ((others : List Run) → Names version others report → ◌≡◌ {A = Result (List Run) ℕ} (Ok runs) (Ok others)) → OnlyNames version report runs
only_names version report runs names only = record { names = names; only = λ others h. let e = only others h in cc }

module _ (s : Script) (report : List ℕ) (runs : List Run) (named : OnlyNames s.version report runs) where
  -- the schedule is not complete
  pub incomplete : ¬ IsComplete s (schedule_of runs) → IsWrongAt s report 2
  incomplete none =
      let P : List Run → Type 0 = λ rs. IsComplete s (schedule_of rs) in
      inr (inl (refl, ((schedule_line runs ++ named.names.rest, named.names.report_is), λ others h. none (subst P (named.only others h.names) h.complete))))

  module _ (t : Script) (schedule : List ℕ) (shown : Final) (same : t ≡ s) (is : schedule ≡ schedule_of runs) (complete : IsComplete t schedule) (final : shown ≡ final_of t schedule) where
    has_schedule : HasSchedule s report runs
    has_schedule =
        let P : Script → Type 0 = λ x. IsComplete x (schedule_of runs) in
        let Q : List ℕ → Type 0 = λ xs. IsComplete t xs in
        record { names = named.names; complete = subst P same (subst Q is complete) }

    due : report_of shown ≡ due_report s runs
    due = ap report_of (final ∙ ap (λ x. final_of x schedule) same ∙ ap (final_of s) is)

    pub right : report ≡ report_of shown → IsRight s report runs
    right all = record { schedule = has_schedule; is = all ∙ due }

    pub wrong : (line : ℕ) → DifferFirstIn report (report_of shown) line → IsWrongAt s report line
    wrong line h =
        let P : List ℕ → Type 0 = λ xs. DifferFirstIn report xs line in
        inr (inr (runs, has_schedule, subst P due h))

either : (x y : Bool) → IsTrue (x || y) → IsTrue x ⊎ IsTrue y
either true y h = inl refl
either false y h = inr h

is_two : (n : ℕ) → IsTrue (n == 2) → n ≡ 2
is_two n h = grind (arith, nat_tests)

is_one : (n : ℕ) → IsTrue (n == 1) → n ≡ 1
is_one n h = grind (arith, nat_tests)

version_from : (n : ℕ) (b : Bool) → IsTrue (n == 2) ⊎ IsTrue ((n == 1) && b) → (n ≡ 1) ⊎ (n ≡ 2)
version_from n b (inl two) = inr (is_two n two)
version_from n b (inr one) = inl (is_one n (both (n == 1) b one).0)

-- the format of a lawful script
pub known_version : (s : Script) → IsTrue (is_lawful s) → (s.version ≡ 1) ⊎ (s.version ≡ 2)
known_version s lawful =
    let a = (both _ _ lawful).0 in
    let b = (both _ _ a).0 in
    let c = (both _ _ b).0 in
    let d = (both _ _ c).0 in
    let e = (both _ _ d).0 in
    version_from s.version _ (either _ _ e)
