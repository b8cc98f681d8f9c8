use Rattle.std.proofs.Common.{◌≡◌, take}
use Rattle.argo_model.specs.Rules.State.{signal_all}
use Rattle.domains.proofs.domains.Domains.signal_all.Given as goal

-- the domains so far are signalled
abbrev pub invariant-loop-dom : goal.invariant-loop-dom
invariant-loop-dom g l = l.self ≡ signal_all l.initial.self (take l.dom-index l.doms)
