use Rattle.std.proofs.Common.{◌≡◌, ◌≤◌, Vec, Global, ℕ, vec_capacity, length}
use Rattle.argo_model.specs.Runs.Script.{Script}
use Rattle.argo_machine.specs.Machine.{Standing}
use Rattle.argo_model.specs.Runs.Run.{run}
use Rattle.serial_run.specs.declared.picks.Picks.{Picks}
use Rattle.argo_base.specs.Generator.{number_after}
use Rattle.serial_run.specs.Picks.{open_sections, EachIsPick}
use Rattle.serial_run.proofs.run.run_scripts.Given as goal

-- the schedule so far is of picks, the generator has turned once for each, and the sections listed are those open next
pub record IsPicked (script : Script) (seed count : ℕ) (m : Standing) (picks : Picks) (vcpus : Vec ℕ Global) : Type 0 where
  pub same : m.script ≡ script
  pub each : EachIsPick script seed m.schedule
  pub turned : picks.number ≡ number_after seed (length m.schedule)
  pub seeded : picks.seed ≡ seed
  pub ready : vcpus.items ≡ open_sections (run script m.schedule)
  pub counted : count ≡ length script.sections
  pub room : count ≤ vec_capacity vcpus

abbrev pub invariant-steps : goal.invariant-steps
invariant-steps l = IsPicked l.fn.scripts l.fn.seed l.count l.machine l.picks l.vcpus

abbrev pub decreases-steps : goal.decreases-steps
decreases-steps l = l.machine.left
