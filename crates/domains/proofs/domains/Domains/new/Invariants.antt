use Rattle.std.proofs.Common.{◌≡◌, take}
use Rattle.argo_model.specs.Rules.State.{start_state}
use Rattle.domains.proofs.domains.Domains.new.Given as goal

-- the domains of the lines so far
abbrev pub invariant-loop-line : goal.invariant-loop-line
invariant-loop-line g l = l.domains ≡ start_state (take l.line-index l.lines)
