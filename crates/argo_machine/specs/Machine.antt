-- What the machine's contracts see of it.
use Rattle.std.specs.Prelude.{◌≡◌, ℕ, ◌<◌, List, [], ◌∷◌, ◌++◌, Some, option_map}
use Rattle.argo_model.specs.declared.action.Outcome.{Outcome}
use Rattle.argo_model.specs.declared.scripts.DomainLine.{DomainLine}
use Rattle.argo_model.specs.Runs.Script.{Script}
use Rattle.argo_model.specs.Runs.Run.{run, next_turn}
use Rattle.argo_model.specs.Runs.Final.{schedule_of}
use Rattle.vcpu_machine.specs.Vcpu.{VcpuAt}
use Rattle.argo_machine.specs.declared.machine.Machine.TheInside.{Inside}
use Rattle.argo_machine.specs.Kept.{Keeps, sections_of, all_left}

-- a machine: what it runs, the schedule so far, and how many steps are to come at most
pub record Standing : Type 0 where
  pub script : Script
  pub schedule : List ℕ
  pub left : ℕ

-- the script that virtual CPUs work through
abbrev pub script_of : ℕ → List DomainLine → List VcpuAt → Script
script_of version domains xs = record { version = version; domains = domains; sections = sections_of xs }

-- one step of section v, which has this outcome
pub record OneStep (old : Standing) (v : ℕ) (outcome : Outcome) (new : Standing) : Type 0 where
  pub script : new.script ≡ old.script
  pub schedule : new.schedule ≡ old.schedule ++ v ∷ []
  pub outcome_is : option_map (λ t. t.outcome) (next_turn (run old.script old.schedule) v) ≡ Some outcome
  pub nearer : new.left < old.left

-- how contracts see a machine
abbrev pub standing_of : {W : Type 0} → Inside W → Standing
standing_of m =
    record {
      script = script_of m.version m.domains m.kept.vcpus;
      schedule = schedule_of m.kept.runs;
      left = all_left m.kept.vcpus;
    }

-- it keeps the course of its script under its schedule
abbrev pub IsKept : {W : Type 0} → Inside W → Type 0
IsKept m = Keeps m.kept (run (script_of m.version m.domains m.kept.vcpus) (schedule_of m.kept.runs))
