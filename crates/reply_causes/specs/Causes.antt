-- The table of each line.
use Rattle.std.specs.Prelude.{◌≡◌, ℕ, ◌*◌, List, length}
use Rattle.argo_base.specs.declared.errno.Errno.TheVariants.{OpNotSupp}
use Rattle.argo_model.specs.declared.scripts.Actor.{Actor}
use Rattle.argo_model.specs.declared.scripts.Actor.TheVariants.{Vcpu}
use Rattle.argo_model.specs.declared.line.Line.{Line}
use Rattle.argo_model.specs.declared.line.Line.TheVariants.{Store, Load, Op, Await, Recv, Destroy, Reset, Create}
use Rattle.argo_model.specs.declared.reply.Reply.{Reply}
use Rattle.argo_model.specs.declared.reply.Reply.TheVariants.{NoSignal}
use Rattle.argo_model.specs.Rules.State.{State}
use Rattle.argo_model.specs.Programs.Program.{Command, RegisterRing, UnregisterRing, SendV, Notify, Unknown, command_of, program, caller_of}
use Rattle.argo_model.specs.Laws.Transitions.{Transition}
use Rattle.argo_model.specs.Laws.SendCauses.{Send, says, cause_of, looked_at}
use Rattle.reply_causes.specs.Plays.{PlaysTo}
use Rattle.reply_causes.specs.Tables.{Call, states_of, last_state, unless_lost}
use Rattle.reply_causes.specs.ControlCauses.{cause_of_destroy, cause_of_reset, cause_of_create}
use Rattle.reply_causes.specs.RegisterCauses.{cause_of_register, cause_of_unregister, register_looked, unregister_looked}
use Rattle.reply_causes.specs.NotifyCauses.{cause_of_notify}
use Rattle.reply_causes.specs.RecvCauses.{cause_of_recv, recv_looked}
use Rattle.reply_causes.specs.MemoryCauses.{cause_of_store, cause_of_load, cause_of_await}

-- the send that a call is, and its cause
abbrev pub send_of_call : Call → Send
send_of_call c = record { caller = c.caller; a1 = c.a1; a2 = c.a2; a3 = c.a3; a4 = c.a4 }

abbrev pub cause_of_send : Call → List State → Reply
cause_of_send c states = cause_of (send_of_call c) (looked_at (send_of_call c) states)

-- of a hypercall, by its command
abbrev pub cause_of_op : Command → Call → List State → Reply
cause_of_op RegisterRing c states = cause_of_register c (register_looked c states)
cause_of_op UnregisterRing c states = cause_of_unregister c (unregister_looked c states)
cause_of_op SendV c states = cause_of_send c states
cause_of_op Notify c states = cause_of_notify c states
cause_of_op Unknown c states = says OpNotSupp

-- the cause of a line's reply in the states that its steps found, where none was `Gone`
abbrev pub cause_of_line : ℕ → Line → List State → Reply
cause_of_line d (Store at bytes) states = cause_of_store d at bytes states
cause_of_line d (Load at n) states = cause_of_load d at n states
cause_of_line d (Op c a1 a2 a3 a4) states = cause_of_op (command_of c) (record { caller = d; a1 = a1; a2 = a2; a3 = a3; a4 = a4 }) states
cause_of_line d (Await turns) states = cause_of_await d states
cause_of_line d (Recv page len) states = cause_of_recv len (recv_looked d (page * 4096) len states)
cause_of_line d (Destroy dom) states = cause_of_destroy dom (last_state states)
cause_of_line d (Reset dom) states = cause_of_reset dom (last_state states)
cause_of_line d (Create dom) states = cause_of_create dom (last_state states)

-- the line has the cause of its table, whatever the states are in which its steps are made
abbrev pub HasCauses : Actor → Line → Type 0
HasCauses actor line =
    (ts : List Transition) (r : Reply)
    → PlaysTo actor (program actor line) ts r → r ≡ unless_lost ts (cause_of_line (caller_of actor) line (states_of ts))

abbrev pub DestroysHaveCauses : Type 0
DestroysHaveCauses = (actor : Actor) (d : ℕ) → HasCauses actor (Destroy d)

abbrev pub ResetsHaveCauses : Type 0
ResetsHaveCauses = (actor : Actor) (d : ℕ) → HasCauses actor (Reset d)

abbrev pub CreatesHaveCauses : Type 0
CreatesHaveCauses = (actor : Actor) (d : ℕ) → HasCauses actor (Create d)

abbrev pub StoresHaveCauses : Type 0
StoresHaveCauses = (d generation at : ℕ) (bytes : List ℕ) → HasCauses (Vcpu d generation) (Store at bytes)

abbrev pub LoadsHaveCauses : Type 0
LoadsHaveCauses = (d generation at n : ℕ) → HasCauses (Vcpu d generation) (Load at n)

abbrev pub AwaitsHaveCauses : Type 0
AwaitsHaveCauses = (d generation turns : ℕ) → HasCauses (Vcpu d generation) (Await turns)

-- one without a signal has looked as often as it may
abbrev pub AwaitsLookTurns : Type 0
AwaitsLookTurns =
    (d generation turns : ℕ) (ts : List Transition)
    → PlaysTo (Vcpu d generation) (program (Vcpu d generation) (Await turns)) ts NoSignal → length ts ≡ turns

-- of a hypercall with a command
abbrev pub OpsHaveCauses : ℕ → Type 0
OpsHaveCauses c = (d generation a1 a2 a3 a4 : ℕ) → HasCauses (Vcpu d generation) (Op c a1 a2 a3 a4)

abbrev pub RegistersHaveCauses : Type 0
RegistersHaveCauses = OpsHaveCauses 1

abbrev pub UnregistersHaveCauses : Type 0
UnregistersHaveCauses = OpsHaveCauses 2

abbrev pub NotifiesHaveCauses : Type 0
NotifiesHaveCauses = OpsHaveCauses 4

abbrev pub RecvsHaveCauses : Type 0
RecvsHaveCauses = (d generation page len : ℕ) → HasCauses (Vcpu d generation) (Recv page len)

-- those of no command
abbrev pub UnknownsHaveCauses : Type 0
UnknownsHaveCauses = (c : ℕ) → command_of c ≡ Unknown → OpsHaveCauses c
