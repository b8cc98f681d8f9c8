-- A run in threads that differs from the machine's.
use Rattle.std.specs.Prelude.{◌≡◌, ℕ, ◌≤◌, List, ◌++◌, length, codes, decimal, Some}
use Rattle.argo_model.specs.declared.short.Short.{Short}
use Rattle.argo_model.specs.Runs.Script.{Script}
use Rattle.shared_world.specs.declared.closed.Closed.{Closed}
use Rattle.shared_world.specs.Whole.{IsWhole}
use Rattle.audit.specs.declared.split.Split.{Split}
use Rattle.audit.specs.Audit.{first_difference}

-- a script of at least two sections, a closed world that is whole for it, and the first place where the machine differs from that world
pub record IsSplit (script : Script) (x : Split) (closed : Closed) : Type 0 where
  pub two : 2 ≤ length script.sections
  pub whole : IsWhole script closed
  pub first : first_difference script closed ≡ Some x

abbrev pub short_text : Short → List ℕ
short_text x = decimal x.tag ++ codes "." ++ decimal x.value

-- its line
abbrev pub split_text : Split → List ℕ
split_text x =
    codes "split step " ++ decimal x.step ++ codes ": threads " ++ short_text x.threads ++ codes " machine " ++ short_text x.machine ++ codes "\n"
