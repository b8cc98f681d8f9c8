-- What contracts see of the world, and what always holds of it.
use Rattle.std.specs.Prelude.{◌≡◌, ◌+◌, ◌*◌, ◌^◌, ◌≤◌, List, length, All}
use Rattle.argo_model.specs.declared.scripts.Actor.{Actor}
use Rattle.argo_model.specs.declared.closing.Totals.{Totals}
use Rattle.argo_model.specs.Rules.Access.{steps_of}
use Rattle.argo_model.specs.Rules.State.{State}
use Rattle.section_world.specs.Young.{IsYoung}

-- the state, who the sections are, and what each has done
pub record WorldAt : Type 0 where
  pub state : State
  pub actors : List Actor
  pub totals : List Totals

-- no total is larger than its steps allow
pub record IsSmall (t : Totals) : Type 0 where
  pub steps : t.steps ≤ 2 ^ 32
  pub accepted : t.accepted ≤ t.steps
  pub bytes : t.bytes ≤ 2 ^ 32 * t.steps

-- a generation or a serial is one more than the steps at most, since a step adds at most one
pub record IsWorld (w : WorldAt) : Type 0 where
  pub few : length w.actors ≤ 64
  pub as_many : length w.totals ≡ length w.actors
  pub small : All IsSmall w.totals
  pub young : IsYoung (steps_of w.totals + 1) w.state
