-- Laws of what a registration comes to, where its caller and its partner are on.
use Rattle.std.proofs.Common.{◌≡◌, ℕ, Bool, true, false, ◌&&◌, ◌||◌, not, if◌then◌else◌, List, [], ◌∷◌, IsTrue, refl, sym, subst}
use Rattle.argo_base.specs.declared.errno.Errno.TheVariants.{Perm, NoEnt, Srch, Again, Acces, Fault as efault, Busy, Exist, NoDev, Inval, NoSpc, MsgSize, OpNotSupp, ConnRefused}
use Rattle.argo_model.specs.declared.action.Action.{Action}
use Rattle.argo_model.specs.declared.action.Action.TheVariants.{Register}
use Rattle.argo_model.specs.declared.action.Outcome.{Outcome}
use Rattle.argo_model.specs.declared.action.Outcome.TheVariants.{Done, Bytes, Fault, Refused, Accepted, Swept, NoMore, Answer, Flag, Gone}
use Rattle.argo_model.specs.declared.scripts.Actor.{Actor}
use Rattle.argo_model.specs.Programs.Program.{caller_of}
use Rattle.argo_model.specs.Runs.Final.{accepted_size, is_accepted}
use Rattle.argo_model.specs.Rules.Outcomes.{can_have, is_refused, is_done, is_fault, is_gone}
use Rattle.argo_model.specs.Rules.Possible.{Facts, is_on_line, other_is_on, is_possible, only_where, may_be_gone, other_may_be_away, needs_on, misses_page, asks_for_new, delivers_fault, delivers_inval}
use Rattle.shared_rings.specs.Made.{is_made, is_registered}

-- as an outcome is possible, where it is told whether the caller and the other domain are on
abbrev checked : Facts → Actor → Action → Outcome → Bool → Bool → Bool
checked f actor a o on other =
    can_have a o
    && only_where (is_gone o) (may_be_gone f actor)
    && only_where (is_refused (Srch ∷ []) o) (other_may_be_away f a)
    && only_where (needs_on a) (if on then not (is_refused (NoDev ∷ []) o) else is_gone o || is_refused (NoDev ∷ Srch ∷ []) o)
    && only_where (is_done o || is_accepted (accepted_size o)) other
    && only_where (misses_page f (caller_of actor) a) (is_fault o || is_gone o)
    && only_where (is_refused (Exist ∷ []) o) (asks_for_new a)
    && only_where (is_refused (efault ∷ []) o) (delivers_fault a)
    && only_where (is_refused (Inval ∷ []) o) (delivers_inval a)

register_can : (f : Facts) (actor : Actor) (port partner len : ℕ) (pages : List ℕ) (fail_exist : Bool) (o : Outcome) → IsTrue (is_registered fail_exist o)
    → IsTrue (checked f actor (Register port partner len pages fail_exist) o true true)
register_can f actor port partner len pages true Done can = refl
register_can f actor port partner len pages true (Bytes bs) can = cc
register_can f actor port partner len pages true Fault can = cc
register_can f actor port partner len pages true (Accepted n) can = cc
register_can f actor port partner len pages true (Swept n) can = cc
register_can f actor port partner len pages true NoMore can = cc
register_can f actor port partner len pages true (Answer x) can = cc
register_can f actor port partner len pages true (Flag x) can = cc
register_can f actor port partner len pages true Gone can = cc
register_can f actor port partner len pages true (Refused Perm) can = cc
register_can f actor port partner len pages true (Refused NoEnt) can = cc
register_can f actor port partner len pages true (Refused Srch) can = cc
register_can f actor port partner len pages true (Refused Again) can = cc
register_can f actor port partner len pages true (Refused Acces) can = cc
register_can f actor port partner len pages true (Refused efault) can = cc
register_can f actor port partner len pages true (Refused Busy) can = cc
register_can f actor port partner len pages true (Refused Exist) can = refl
register_can f actor port partner len pages true (Refused NoDev) can = cc
register_can f actor port partner len pages true (Refused Inval) can = refl
register_can f actor port partner len pages true (Refused NoSpc) can = refl
register_can f actor port partner len pages true (Refused MsgSize) can = cc
register_can f actor port partner len pages true (Refused OpNotSupp) can = cc
register_can f actor port partner len pages true (Refused ConnRefused) can = cc
register_can f actor port partner len pages false Done can = refl
register_can f actor port partner len pages false (Bytes bs) can = cc
register_can f actor port partner len pages false Fault can = cc
register_can f actor port partner len pages false (Accepted n) can = cc
register_can f actor port partner len pages false (Swept n) can = cc
register_can f actor port partner len pages false NoMore can = cc
register_can f actor port partner len pages false (Answer x) can = cc
register_can f actor port partner len pages false (Flag x) can = cc
register_can f actor port partner len pages false Gone can = cc
register_can f actor port partner len pages false (Refused Perm) can = cc
register_can f actor port partner len pages false (Refused NoEnt) can = cc
register_can f actor port partner len pages false (Refused Srch) can = cc
register_can f actor port partner len pages false (Refused Again) can = cc
register_can f actor port partner len pages false (Refused Acces) can = cc
register_can f actor port partner len pages false (Refused efault) can = cc
register_can f actor port partner len pages false (Refused Busy) can = cc
register_can f actor port partner len pages false (Refused Exist) can = cc
register_can f actor port partner len pages false (Refused NoDev) can = cc
register_can f actor port partner len pages false (Refused Inval) can = refl
register_can f actor port partner len pages false (Refused NoSpc) can = refl
register_can f actor port partner len pages false (Refused MsgSize) can = cc
register_can f actor port partner len pages false (Refused OpNotSupp) can = cc
register_can f actor port partner len pages false (Refused ConnRefused) can = cc

pub register_possible : (f : Facts) (actor : Actor) (port partner len : ℕ) (pages : List ℕ) (fail_exist : Bool) (o : Outcome)
    → IsTrue (is_on_line f (caller_of actor)) → IsTrue (other_is_on f (Register port partner len pages fail_exist)) → IsTrue (is_registered fail_exist o)
    → IsTrue (is_possible f actor (Register port partner len pages fail_exist) o)
register_possible f actor port partner len pages fail_exist o on other can =
    let a : Action = Register port partner len pages fail_exist in
    subst (λ (b : Bool). IsTrue (checked f actor a o b (other_is_on f a))) (sym on)
    (subst (λ (b : Bool). IsTrue (checked f actor a o true b)) (sym other) (register_can f actor port partner len pages fail_exist o can))

pub made_registered : (fail_exist : Bool) (o : Outcome) → IsTrue (is_made o) → IsTrue (is_registered fail_exist o)
made_registered fail_exist Done made = refl
made_registered fail_exist (Bytes bs) made = cc
made_registered fail_exist Fault made = cc
made_registered fail_exist (Accepted n) made = cc
made_registered fail_exist (Swept n) made = cc
made_registered fail_exist NoMore made = cc
made_registered fail_exist (Answer x) made = cc
made_registered fail_exist (Flag x) made = cc
made_registered fail_exist Gone made = cc
made_registered fail_exist (Refused Perm) made = cc
made_registered fail_exist (Refused NoEnt) made = cc
made_registered fail_exist (Refused Srch) made = cc
made_registered fail_exist (Refused Again) made = cc
made_registered fail_exist (Refused Acces) made = cc
made_registered fail_exist (Refused efault) made = cc
made_registered fail_exist (Refused Busy) made = cc
made_registered fail_exist (Refused Exist) made = cc
made_registered fail_exist (Refused NoDev) made = cc
made_registered fail_exist (Refused Inval) made = refl
made_registered fail_exist (Refused NoSpc) made = cc
made_registered fail_exist (Refused MsgSize) made = cc
made_registered fail_exist (Refused OpNotSupp) made = cc
made_registered fail_exist (Refused ConnRefused) made = cc
