-- What a ring's answers come to.
use Rattle.std.specs.Prelude.{ℕ, Bool, true, false, ◌||◌, if◌then◌else◌, List, [], ◌∷◌}
use Rattle.argo_base.specs.declared.errno.Errno.{Errno}
use Rattle.argo_base.specs.declared.errno.Errno.TheVariants.{Again, Fault as efault, Busy, MsgSize}
use Rattle.argo_model.specs.declared.action.Load.{Load}
use Rattle.argo_model.specs.declared.action.Outcome.{Outcome}
use Rattle.argo_model.specs.declared.action.Outcome.TheVariants.{Accepted, Answer}
use Rattle.argo_board.specs.declared.entry.FlagChange.{FlagChange}
use Rattle.argo_board.specs.declared.entry.FlagChange.TheVariants.{Keep, Raise}
use Rattle.argo_model.specs.Rules.Outcomes.{is_refused, is_size_of, own_errors}
use Rattle.argo_model.specs.Rules.Possible.{is_faulted}

-- the error for a body whose gather met a fault
abbrev pub fault_of : Load → List Errno
fault_of load = if is_faulted load then efault ∷ [] else []

-- a ring's answer to an offer: it takes the body in, or refuses it, for one of its own errors or for the load's
abbrev pub is_offered : Load → Outcome → Bool
is_offered load (Accepted n) = is_size_of load n
is_offered load o = is_refused (MsgSize ∷ Again ∷ Busy ∷ []) o || is_refused (fault_of load) o || is_refused (own_errors load) o

abbrev pub is_answer : Outcome → Bool
is_answer (Answer a) = true
is_answer o = false

-- the owner of the ring is signalled where it took the body in
abbrev pub signal_of : ℕ → Outcome → FlagChange
signal_of owner (Accepted n) = Raise (owner ∷ [])
signal_of owner o = Keep
