use Rattle.std.proofs.Common.{◌≡◌, false, true, refl, sym, ap, ◌∙◌, arith, length, None, Some}
use Rattle.std.specs.Option.{is_some}
use Rattle.std.proofs.lemmas.Bool.{false≢true}
use Rattle.argo_machine.proofs.RunLaws.{run-sections}
use Rattle.argo_model.specs.Runs.Run.{run}
use Rattle.audit.specs.Entries.{open_at, first_open}
use Rattle.audit.proofs.FirstLaws.{found_at, not_at, nowhere}
use Rattle.audit.proofs.StepLaws.{open_here, closed_here, all_finished}
use Rattle.audit.proofs.entries.first_open.Goals as goal

pub returns-then-not-finished : goal.returns-then-not-finished
returns-then-not-finished c =
    let m = c.args.machine.now in
    let r = run m.script m.schedule in
    record {
      first = found_at (open_at r) (length r.sections) c.loop-v.v (Some c.loop-v.v) c.loop-v.invariant
          (open_here r c.loop-v.v (λ none. false≢true (sym c.if-not-finished.true ∙ c.finished.ensures.1 none))) refl
          (omega (arith, run-sections m.script m.schedule));
      finished = λ none. absurd (false≢true (sym (ap is_some none)));
    }

pub loop-v-preserved : goal.loop-v-preserved
loop-v-preserved c =
    let m = c.args.machine.now in
    let r = run m.script m.schedule in
    not_at (open_at r) c.loop-v.v None c.loop-v.invariant (closed_here r c.loop-v.v (c.finished.ensures.0 c.if-not-finished.false)) refl

pub returns : goal.returns
returns c =
    let m = c.args.machine.now in
    let r = run m.script m.schedule in
    let n = run-sections m.script m.schedule in
    let first : None ≡ first_open r =
    nowhere (open_at r) (length r.sections) c.loop-v.v c.loop-v.invariant (omega (arith, n)) (omega (arith, n)) in
    record { first = first; finished = λ none. all_finished m (sym first) }
