-- The words of the runs so far follow the first word, each after a space.
use Rattle.std.proofs.Common.{◌≡◌, ◌++◌, ◌∷◌, take}
use Rattle.std.specs.List.{flat_map}
use Rattle.std.specs.String.{string_bytes}
use Rattle.argo_model.specs.Runs.Report.{run_word}
use Rattle.report_text.proofs.line.push_schedule.Given as goal

abbrev pub invariant-loop-run : goal.invariant-loop-run
invariant-loop-run l =
    string_bytes l.text ≡ string_bytes l.initial.text ++ flat_map (λ r. 32 ∷ run_word r) (take l.run-index l.runs)
