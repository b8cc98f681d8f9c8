-- A second replay, which shows the steps of one line.
use Rattle.std.specs.Prelude.{◌≡◌, ℕ, ◌+◌, ◌^◌, ◌<◌, List, ◌++◌, length, replicate}
use Rattle.argo_model.specs.declared.closing.Run.{Run}
use Rattle.argo_model.specs.Runs.Run.{run}
use Rattle.argo_machine.specs.Machine.{Standing}
use Rattle.argo_check.specs.declared.words.Place.{Place}
use Rattle.argo_check.specs.Why.{shown_from}

-- each number of a schedule that begins so and goes on with this run makes a step
pub record CanGo (m : Standing) (r : Run) : Type 0 where
  pub rest : List ℕ
  pub each : length (run m.script (m.schedule ++ (replicate r.count r.vcpu ++ rest))).steps ≡ length (m.schedule ++ (replicate r.count r.vcpu ++ rest))

-- so many steps were made, each number of the schedule one, and this is what is shown of them
pub record IsWalk (p : Place) (m : Standing) (steps : ℕ) (text : List ℕ) : Type 0 where
  pub counted : steps ≡ length m.schedule
  pub each : length (run m.script m.schedule).steps ≡ length m.schedule
  pub few : steps + m.left < 2 ^ 32
  pub shown : text ≡ shown_from p 1 (run m.script m.schedule).steps
