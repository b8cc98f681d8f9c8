-- What a machine keeps of a run, and how a step changes it.
use Rattle.std.specs.Prelude.{◌≡◌, ℕ, ◌+◌, ◌^◌, ◌<◌, ◌≤◌, List, [], ◌∷◌, ◌++◌, length, map, sum_by, IsTrue, Option, Some, option_map}
use Rattle.std.specs.List.{range_with_len}
use Rattle.argo_model.specs.declared.scripts.Actor.{Actor}
use Rattle.argo_model.specs.declared.action.Outcome.{Outcome}
use Rattle.argo_model.specs.declared.closing.Totals.{Totals}
use Rattle.argo_model.specs.declared.closing.Run.{Run}
use Rattle.argo_model.specs.declared.closing.DoneLine.{DoneLine}
use Rattle.argo_model.specs.Rules.State.{State}
use Rattle.argo_model.specs.Runs.Script.{Section}
use Rattle.argo_model.specs.Runs.Run.{Course, Progress, is_open, step, next_turn}
use Rattle.argo_model.specs.Runs.Final.{runs_of, schedule_of, done_of, totals_of}
use Rattle.vcpu_machine.specs.Vcpu.{VcpuAt, StandsAt, left_of}
use Rattle.argo_machine.specs.Replies.{KeepsSteps}

-- what a world shows: its state, where it tells that, who its sections are, and what each has done
pub record WorldAt : Type 0 where
  pub told : Option State
  pub actors : List Actor
  pub totals : List Totals

-- what is kept: the virtual CPUs and the world as they stand, the schedule in runs, and the lines that are done, with the steps
-- of their replies
pub record KeptAt : Type 0 where
  pub vcpus : List VcpuAt
  pub world : WorldAt
  pub runs : List Run
  pub done : List DoneLine
  pub reply_steps : List ℕ

-- each section is as far as the run has it
abbrev pub AllStand : List VcpuAt → List Progress → Type 0
AllStand [] [] = Unit {0}
AllStand (x ∷ xs) (p ∷ ps) = StandsAt x p × AllStand xs ps
AllStand [] (p ∷ ps) = ⊥
AllStand (x ∷ xs) [] = ⊥

-- the sections that virtual CPUs work through
abbrev pub sections_of : List VcpuAt → List Section
sections_of xs = map (λ x. x.part) xs

-- who works through them
abbrev pub actor_of : VcpuAt → Actor
actor_of x = x.part.actor

-- how many steps they have to come at most
abbrev pub all_left : List VcpuAt → ℕ
all_left xs = sum_by left_of xs

-- what is kept is what the run comes to
pub record KeepsCourse (xs : List VcpuAt) (w : WorldAt) (runs : List Run) (done : List DoneLine) (reply_steps : List ℕ) (c : Course) : Type 0 where
  pub told_is : w.told ≡ Some c.state
  pub actors_are : w.actors ≡ map actor_of xs
  pub totals_are : w.totals ≡ map (totals_of c.steps) (range_with_len 0 (length xs))
  pub stand : AllStand xs c.sections
  pub each_step : length c.steps ≡ length (schedule_of runs)
  pub runs_are : runs ≡ runs_of (schedule_of runs)
  pub done_is : done ≡ done_of c.steps
  pub replies_are : KeepsSteps done reply_steps c.steps
  pub bounded : length (schedule_of runs) + all_left xs ≤ 2 ^ 28

abbrev pub Keeps : KeptAt → Course → Type 0
Keeps k c = KeepsCourse k.vcpus k.world k.runs k.done k.reply_steps c

-- it keeps some run, in which section v has a line left
pub record IsOpenIn (k : KeptAt) (v : ℕ) : Type 0 where
  pub course : Course
  pub keeps : Keeps k course
  pub unfinished : IsTrue (is_open course v)

-- a step of section v with this outcome
pub record AdvancesBy (old : KeptAt) (v : ℕ) (outcome : Outcome) (new : KeptAt) : Type 0 where
  pub sections : sections_of new.vcpus ≡ sections_of old.vcpus
  pub schedule : schedule_of new.runs ≡ schedule_of old.runs ++ v ∷ []
  pub nearer : all_left new.vcpus < all_left old.vcpus
  pub course : (c : Course) → Keeps old c → Keeps new (step c v) × (option_map (λ t. t.outcome) (next_turn c v) ≡ Some outcome)

-- no step
pub record StaysKept (old new : KeptAt) : Type 0 where
  pub sections : sections_of new.vcpus ≡ sections_of old.vcpus
  pub schedule : schedule_of new.runs ≡ schedule_of old.runs
  pub left : all_left new.vcpus ≡ all_left old.vcpus
  pub course : (c : Course) → Keeps old c → Keeps new c
