-- Acts on whole domains, as the code has them.
use Rattle.std.specs.Prelude.{Bool, true, IsTrue, ⊤}
use Rattle.argo_model.specs.declared.action.Action.{Action}
use Rattle.argo_model.specs.declared.action.Action.TheVariants.{Rest, Fetch, Put, Register, Unregister, Deliver, Sweep, Query, Look, Destroy, Reset, Create}
use Rattle.argo_board.specs.declared.entry.FlagChange.{FlagChange}
use Rattle.argo_board.specs.declared.entry.FlagChange.TheVariants.{Keep, Clear}
use Rattle.argo_model.specs.Rules.Possible.{Facts, is_destroyed}
use Rattle.shared_ends.specs.declared.ends.End.{End}
use Rattle.shared_ends.specs.declared.ends.End.TheVariants.{Destroy as EndDestroy, Reset as EndReset, Create as EndCreate}
use Rattle.shared_ends.specs.declared.ends.Turn.{Turn}
use Rattle.shared_ends.specs.declared.ends.Turn.TheVariants.{Destroyed, Reset as TurnReset, Created}

-- a domain is destroyed only where a control line of the script destroys it
abbrev pub may_end : Facts → Action → Bool
may_end f Rest = true
may_end f (Fetch page off n) = true
may_end f (Put page off bytes) = true
may_end f (Register port partner len pages fail_exist) = true
may_end f (Unregister port partner) = true
may_end f (Deliver port to to_port kind load) = true
may_end f (Sweep serial) = true
may_end f (Query to to_port need) = true
may_end f Look = true
may_end f (Destroy dom) = is_destroyed f dom
may_end f (Reset dom) = true
may_end f (Create dom) = true

-- the action that it is
abbrev pub the_action : End → Action
the_action (EndDestroy dom) = Destroy dom
the_action (EndReset dom) = Reset dom
the_action (EndCreate dom) = Create dom

-- a domain is gone, or made anew, only where a control line destroys it
abbrev pub MayTurn : Facts → Turn → Type 0
MayTurn f (Destroyed dom) = IsTrue (is_destroyed f dom)
MayTurn f (TurnReset dom) = ⊤
MayTurn f (Created dom live) = IsTrue (is_destroyed f dom)

-- a domain that is gone or reset has its flag clear
abbrev pub flag_after : Turn → FlagChange
flag_after (Destroyed dom) = Clear dom
flag_after (TurnReset dom) = Clear dom
flag_after (Created dom live) = Keep
