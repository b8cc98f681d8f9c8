-- The acts of the control section have their causes.
use Rattle.std.proofs.Common.{◌≡◌, ℕ, not, List}
use Rattle.std.specs.Prelude.{is_none}
use Rattle.argo_base.specs.declared.errno.Errno.TheVariants.{Srch, Exist}
use Rattle.argo_model.specs.declared.scripts.Actor.{Actor}
use Rattle.argo_model.specs.declared.scripts.Actor.TheVariants.{Vcpu, Control}
use Rattle.argo_model.specs.declared.action.Action.{Action}
use Rattle.argo_model.specs.declared.action.Action.TheVariants.{Destroy as DestroyNow, Reset as ResetNow, Create as CreateNow}
use Rattle.argo_model.specs.declared.reply.Reply.{Reply}
use Rattle.argo_model.specs.Rules.State.{State, domain_of, is_alive}
use Rattle.argo_model.specs.Rules.Act.{act}
use Rattle.argo_model.specs.Rules.Destroy.{destroy, reset, create}
use Rattle.argo_model.specs.Programs.Asks.{ask, say_done}
use Rattle.argo_model.specs.Laws.Transitions.{Transition}
use Rattle.reply_causes.specs.Plays.{PlaysTo}
use Rattle.reply_causes.specs.Tables.{last_state, unless_lost, zero_reply, states_of}
use Rattle.reply_causes.specs.ControlCauses.{cause_of_destroy, cause_of_reset, cause_of_create}
use Rattle.reply_causes.specs.Causes.{DestroysHaveCauses, ResetsHaveCauses, CreatesHaveCauses}
use Rattle.reply_causes.proofs.StepLaws.{ends, Tells}
use Rattle.reply_causes.proofs.TableLaws.{over-cause, act-over, Answers, Answered, at_life, tells_if, done-tells, done_closes}

destroy-tells : (s : State) (d : ℕ) → Tells say_done (destroy s d).outcome (cause_of_destroy d s)
destroy-tells s d = tells_if (not (is_alive s d)) Srch _ zero_reply done-tells

reset-tells : (s : State) (d : ℕ) → Tells say_done (reset s d).outcome (cause_of_reset d s)
reset-tells s d = tells_if (not (is_alive s d)) Srch _ zero_reply done-tells

create-tells : (s : State) (d : ℕ) → Tells say_done (create s d).outcome (cause_of_create d s)
create-tells s d = tells_if (is_none (domain_of s d)) Srch _ _ (tells_if (is_alive s d) Exist _ zero_reply done-tells)

destroy-answers : (actor : Actor) (d : ℕ) (s : State) → Answers say_done (act actor (DestroyNow d) s).outcome (cause_of_destroy d s)
destroy-answers (Vcpu c generation) d s = at_life s c generation (DestroyNow d) say_done (cause_of_destroy d s) (λ x live here is. Answered (destroy-tells s d))
destroy-answers Control d s = Answered (destroy-tells s d)

reset-answers : (actor : Actor) (d : ℕ) (s : State) → Answers say_done (act actor (ResetNow d) s).outcome (cause_of_reset d s)
reset-answers (Vcpu c generation) d s = at_life s c generation (ResetNow d) say_done (cause_of_reset d s) (λ x live here is. Answered (reset-tells s d))
reset-answers Control d s = Answered (reset-tells s d)

create-answers : (actor : Actor) (d : ℕ) (s : State) → Answers say_done (act actor (CreateNow d) s).outcome (cause_of_create d s)
create-answers (Vcpu c generation) d s = at_life s c generation (CreateNow d) say_done (cause_of_create d s) (λ x live here is. Answered (create-tells s d))
create-answers Control d s = Answered (create-tells s d)

-- a line that is one act
one_act : (actor : Actor) (a : Action) (q : State → Reply) → ((s : State) → Answers say_done (act actor a s).outcome (q s))
    → (ts : List Transition) (r : Reply) → PlaysTo actor (λ os. ask a say_done os) ts r → r ≡ unless_lost ts (q (last_state (states_of ts)))
one_act actor a q answers ts r h =
    over-cause (q (last_state (states_of ts))) ts r
    (act-over actor a say_done q 0 ts r (λ o xs end. done_closes actor o xs r end) answers (ends actor (λ os. ask a say_done os) ts r h))

pub destroys_have_causes : DestroysHaveCauses
destroys_have_causes actor d ts r h = one_act actor (DestroyNow d) (cause_of_destroy d) (destroy-answers actor d) ts r h

pub resets_have_causes : ResetsHaveCauses
resets_have_causes actor d ts r h = one_act actor (ResetNow d) (cause_of_reset d) (reset-answers actor d) ts r h

pub creates_have_causes : CreatesHaveCauses
creates_have_causes actor d ts r h = one_act actor (CreateNow d) (cause_of_create d) (create-answers actor d) ts r h
