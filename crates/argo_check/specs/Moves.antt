-- What a replay comes to.
use Rattle.std.specs.Prelude.{◌≡◌, ◌≢◌, ℕ, List, ◌++◌, length, replicate, IsTrue}
use Rattle.std.specs.List.{list_all}
use Rattle.argo_model.specs.declared.closing.Run.{Run}
use Rattle.argo_model.specs.Runs.Script.{Script}
use Rattle.argo_model.specs.Runs.Run.{run, is_finished}
use Rattle.argo_machine.specs.Machine.{Standing}

-- the steps of a run join the schedule
pub record Goes (old : Standing) (r : Run) (new : Standing) : Type 0 where
  pub script : new.script ≡ old.script
  pub schedule : new.schedule ≡ old.schedule ++ replicate r.count r.vcpu

-- in no schedule that begins so and goes on with this run each number makes a step
abbrev pub Stops : Standing → Run → Type 0
Stops old r =
    (rest : List ℕ) → length (run old.script (old.schedule ++ (replicate r.count r.vcpu ++ rest))).steps
    ≢ length (old.schedule ++ (replicate r.count r.vcpu ++ rest))

-- every section of the run so far is finished
abbrev pub AllFinished : Standing → Type 0
AllFinished m = IsTrue (list_all is_finished (run m.script m.schedule).sections)

-- the machine of a script after a complete schedule
pub record Replayed (s : Script) (schedule : List ℕ) (m : Standing) : Type 0 where
  pub script : m.script ≡ s
  pub schedule_is : m.schedule ≡ schedule
  pub finished : AllFinished m
