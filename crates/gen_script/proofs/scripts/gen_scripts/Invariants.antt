use Rattle.std.proofs.Common.{◌≡◌, ◌*◌, ℕ, List, map}
use Rattle.std.specs.List.{range_with_len}
use Rattle.argo_model.specs.declared.scripts.DomainLine.{DomainLine}
use Rattle.argo_model.specs.Runs.Script.{Section}
use Rattle.argo_model.specs.Examples.Words.{domain}
use Rattle.argo_base.specs.Generator.{number_after}
use Rattle.gen_script.specs.Made.{round_count, section_of}
use Rattle.gen_script.proofs.scripts.gen_scripts.Given as goal

-- the domains and sections so far, and the generator after their draws
pub record IsAtSection (n count number : ℕ) (pushed : List DomainLine) (parts : List Section) : Type 0 where
  pub domains : pushed ≡ map (λ d. domain d 3) (range_with_len 1 count)
  pub sections : parts ≡ map (section_of n) (range_with_len 1 count)
  pub turned : number ≡ number_after n (2 * round_count * count)

abbrev pub invariant-sections : goal.invariant-sections
invariant-sections l = IsAtSection l.n l.before l.draws.number l.domains l.parts
