-- The virtual CPUs of all sections before the first step.
use Rattle.std.specs.Prelude.{◌≡◌, ℕ, ◌≤◌, List, map, sum_by}
use Rattle.argo_model.specs.Runs.Script.{Section}
use Rattle.argo_model.specs.Runs.Run.{at_first_line}
use Rattle.vcpu_machine.specs.Steps.{most_steps}
use Rattle.vcpu_machine.specs.Vcpu.{VcpuAt}
use Rattle.argo_machine.specs.Kept.{AllStand, sections_of, all_left}

-- the steps of a section at most
abbrev pub most_of : Section → ℕ
most_of s = sum_by most_steps s.lines

-- each stands at its first line
pub record AreVcpusOf (xs : List VcpuAt) (sections : List Section) : Type 0 where
  pub sections_are : sections_of xs ≡ sections
  pub stand : AllStand xs (map at_first_line sections)
  pub left : all_left xs ≤ sum_by most_of sections
