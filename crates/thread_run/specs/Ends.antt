-- Which domains the lines of a section destroy.
use Rattle.std.specs.Prelude.{Bool, true, List, [], ◌∷◌, IsTrue, ⊤}
use Rattle.argo_model.specs.declared.line.Line.{Line}
use Rattle.argo_model.specs.declared.line.Line.TheVariants.{Destroy}
use Rattle.argo_model.specs.Rules.Possible.{Facts, is_destroyed}

-- the domain that the line destroys, where it destroys one, is among those that control lines of the script destroy
abbrev pub line_may_end : Facts → Line → Bool
line_may_end f (Destroy d) = is_destroyed f d
line_may_end f line = true

abbrev pub LinesMayEnd : Facts → List Line → Type 0
LinesMayEnd f [] = ⊤
LinesMayEnd f (line ∷ lines) = IsTrue (line_may_end f line) × LinesMayEnd f lines
