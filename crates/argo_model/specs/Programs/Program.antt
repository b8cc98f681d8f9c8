-- What a line of a script does next, as a function of all the outcomes that it has had so far.
use Rattle.std.specs.Prelude.{ℕ, zero, suc, true, ◌==◌, if◌then◌else◌, List, [], length}
use Rattle.argo_base.specs.declared.errno.Errno.TheVariants.{OpNotSupp}
use Rattle.argo_base.specs.Match.{wildcard}
use Rattle.argo_base.specs.Pieces.{pieces}
use Rattle.argo_model.specs.declared.scripts.Actor.{Actor}
use Rattle.argo_model.specs.declared.scripts.Actor.TheVariants.{Vcpu, Control}
use Rattle.argo_model.specs.declared.line.Line.{Line}
use Rattle.argo_model.specs.declared.line.Line.TheVariants.{Store, Load, Op, Await, Recv, Destroy, Reset, Create}
use Rattle.argo_model.specs.declared.action.Action.TheVariants.{Look, Destroy as DestroyNow, Reset as ResetNow, Create as CreateNow}
use Rattle.argo_model.specs.declared.action.Outcome.{Outcome}
use Rattle.argo_model.specs.declared.action.Outcome.TheVariants.{Flag}
use Rattle.argo_model.specs.declared.reply.Reply.TheVariants.{Stored, Hex, Signal, NoSignal, Fault as fault}
use Rattle.argo_model.specs.Programs.Asks.{say_done, refuse_at_once}
use Rattle.argo_model.specs.Programs.Register.{register_ring, unregister_ring}
use Rattle.argo_model.specs.Programs.Send.{sendv}
use Rattle.argo_model.specs.Programs.Notify.{notify}
use Rattle.argo_model.specs.Programs.Recv.{recv}
pub use Rattle.argo_model.specs.Programs.Asks.{Next, Do, Say, Rests, unless_gone, ask, if_done, if_bytes, put_all, fetch_all}

-- `store`: puts the range, and a fault leaves the earlier pieces written
abbrev pub store : ℕ → List ℕ → Rests
store at bytes os = put_all (pieces at (length bytes)) bytes (Say fault) (λ os. Say Stored) os

-- `load`: fetches the range
abbrev pub load : ℕ → ℕ → Rests
load at n os = fetch_all (pieces at n) [] (Say fault) (λ bs os. Say (Hex bs)) os

-- a look that finds the flag is a signal
abbrev pub if_flag : Rests → Outcome → Rests
if_flag more (Flag true) os = Say Signal
if_flag more o os = more os

-- `await`: looks until the flag is found, so many times at most
abbrev pub await : ℕ → Rests
await zero os = Say NoSignal
await (suc n) os = ask Look (if_flag (λ os. await n os)) os

-- the commands of the hypercall argo_op
pub data Command : Type 0 where
  RegisterRing : Command
  UnregisterRing : Command
  SendV : Command
  Notify : Command
  Unknown : Command

abbrev pub command_of : ℕ → Command
command_of c =
    if c == 1 then RegisterRing
    else if c == 2 then UnregisterRing
    else if c == 3 then SendV
    else if c == 4 then Notify
    else Unknown

-- `op`, by its command
abbrev pub op : ℕ → Command → ℕ → ℕ → ℕ → ℕ → Rests
op caller RegisterRing a1 a2 a3 a4 os = register_ring a1 a2 a3 a4 os
op caller UnregisterRing a1 a2 a3 a4 os = unregister_ring a1 a2 a3 a4 os
op caller SendV a1 a2 a3 a4 os = sendv caller a1 a2 a3 a4 os
op caller Notify a1 a2 a3 a4 os = notify a1 a2 a3 a4 os
op caller Unknown a1 a2 a3 a4 os = refuse_at_once OpNotSupp os

-- the domain of a section; the control section, which makes no hypercall, has none
abbrev pub caller_of : Actor → ℕ
caller_of (Vcpu d generation) = d
caller_of Control = wildcard

-- what a line of this actor does next, after these outcomes
abbrev pub program : Actor → Line → Rests
program actor (Store at bytes) os = store at bytes os
program actor (Load at n) os = load at n os
program actor (Op c a1 a2 a3 a4) os = op (caller_of actor) (command_of c) a1 a2 a3 a4 os
program actor (Await turns) os = await turns os
program actor (Recv page len) os = recv page len os
program actor (Destroy d) os = ask (DestroyNow d) say_done os
program actor (Reset d) os = ask (ResetNow d) say_done os
program actor (Create d) os = ask (CreateNow d) say_done os
