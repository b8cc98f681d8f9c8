use Rattle.std.proofs.Common.{◌≡◌, ◌*◌, ℕ, List}
use Rattle.argo_model.specs.declared.line.Line.{Line}
use Rattle.argo_base.specs.Generator.{number_after}
use Rattle.gen_script.specs.Made.{lines_from}
use Rattle.gen_script.proofs.scripts.section.Given as goal

-- the lines with the rounds so far, and the generator after their draws
pub record IsAtRound (x d rounds number : ℕ) (pushed : List Line) : Type 0 where
  pub lines : pushed ≡ lines_from x d rounds
  pub turned : number ≡ number_after x (2 * rounds)

abbrev pub invariant-rounds : goal.invariant-rounds
invariant-rounds l = IsAtRound l.fn.draws.number l.d l.before l.draws.number l.lines
