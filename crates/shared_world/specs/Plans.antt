-- What always holds of what a world's first ledger knows of its script.
use Rattle.std.specs.Prelude.{◌≡◌, ℕ, ◌+◌, ◌≤◌, List, All, IsTrue, length}
use Rattle.argo_model.specs.declared.scripts.Actor.{Actor}
use Rattle.argo_model.specs.Rules.Possible.{Facts}
use Rattle.argo_model.specs.Runs.Script.{is_known_actor}
use Rattle.argo_board.specs.Board.{most_vcpus}

-- each section is of a domain of the script, and the ledger has a part for each section and one more
pub record IsPlan (f : Facts) (actors : List Actor) (parts : ℕ) : Type 0 where
  pub known : All (λ actor. IsTrue (is_known_actor f.domains actor)) actors
  pub parts_are : parts ≡ length actors + 1
  pub few : length actors ≤ most_vcpus
