-- What contracts see of a worker, and what always holds of it.
use Rattle.std.specs.Prelude.{◌≡◌, ℕ, ◌+◌, ◌<◌, ◌≤◌, List, [], length, sum_by, slice_get, Some}
use Rattle.argo_model.specs.declared.closed.HeardLine.{HeardLine}
use Rattle.argo_model.specs.declared.scripts.Actor.{Actor}
use Rattle.argo_model.specs.Rules.Possible.{Facts}
use Rattle.argo_model.specs.Runs.Run.{Progress}
use Rattle.argo_model.specs.Runs.Script.{Section, turns_of}
use Rattle.argo_board.specs.Board.{most_steps}
use Rattle.vcpu_machine.specs.Vcpu.{VcpuAt, StandsAt, left_of}
use Rattle.shared_steps.specs.Passes.{Carried}
use Rattle.shared_world.specs.Whole.{RiseAbove, last_step}
use Rattle.thread_run.specs.Ends.{LinesMayEnd}

-- a section as far as it is, and its number
pub record Work : Type 0 where
  pub vcpu : VcpuAt
  pub number : ℕ

abbrev pub work_of : VcpuAt → Carried → Work
work_of v pass = record { vcpu = v; number = pass.tally.vcpu }

-- section `number` is the world's section of that number, and is within its bounds
pub record MayWork (f : Facts) (actors : List Actor) (number : ℕ) (section : Section) : Type 0 where
  pub lines : length section.lines ≤ 8192
  pub turns : sum_by turns_of section.lines ≤ 1048576
  pub actor : slice_get actors number ≡ Some section.actor
  pub ends : LinesMayEnd f section.lines

-- the section stands at its place in some run, its pass holds no lock, and the steps that it has made and that are to come are not too
-- many. Each line that is done was heard, at rising steps, and where no line is left the last step is that of the last reply
pub record IsWork (f : Facts) (actors : List Actor) (v : VcpuAt) (pass : Carried) (heard : List HeardLine) (room : ℕ) : Type 0 where
  pub may : MayWork f actors pass.tally.vcpu v.part
  pub free : pass.held ≡ []
  pub progress : Progress
  pub stands : StandsAt v progress
  pub done : v.done ≤ length v.part.lines
  pub few : pass.tally.steps + left_of v < most_steps
  pub room_is : length v.part.lines ≤ room
  pub all : length heard ≡ v.done
  pub rise : RiseAbove 0 heard
  pub within : last_step heard ≤ pass.tally.steps
  pub last : length v.part.lines ≤ v.done → last_step heard ≡ pass.tally.steps

-- it is the same section's
pub record SameSection (old new : Work) : Type 0 where
  pub part : new.vcpu.part ≡ old.vcpu.part
  pub number : new.number ≡ old.number
