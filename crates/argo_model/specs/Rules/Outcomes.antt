-- Which outcomes an action can have.
use Rattle.std.specs.Prelude.{ℕ, Bool, true, false, ◌||◌, ◌==◌, nat_lt, List, [], ◌∷◌, length}
use Rattle.std.specs.List.{list_any}
use Rattle.argo_base.specs.declared.errno.Errno.{Errno}
use Rattle.argo_base.specs.declared.errno.Errno.TheVariants.{NoEnt, Srch, Again, Fault as efault, Busy, Exist, NoDev, Inval, NoSpc, MsgSize, ConnRefused}
use Rattle.argo_base.specs.Errno.{number_of}
use Rattle.argo_model.specs.declared.action.Action.{Action}
use Rattle.argo_model.specs.declared.action.Action.TheVariants.{Rest, Fetch, Put, Register, Unregister, Deliver, Sweep, Query, Look, Destroy, Reset, Create}
use Rattle.argo_model.specs.declared.action.Load.{Load}
use Rattle.argo_model.specs.declared.action.Load.TheVariants.{Body, Faulted, Refused as RefusedLoad}
use Rattle.argo_model.specs.declared.action.Outcome.{Outcome}
use Rattle.argo_model.specs.declared.action.Outcome.TheVariants.{Done, Bytes, Fault, Refused, Accepted, Swept, NoMore, Answer, Flag, Gone}

-- the error is one of these
abbrev pub is_among : List Errno → Errno → Bool
is_among es e = list_any (λ x. number_of x == number_of e) es

-- the outcome is a refusal for one of these errors
abbrev pub is_refused : List Errno → Outcome → Bool
is_refused es (Refused e) = is_among es e
is_refused es o = false

abbrev pub is_done : Outcome → Bool
is_done Done = true
is_done o = false

abbrev pub is_fault : Outcome → Bool
is_fault Fault = true
is_fault o = false

abbrev pub is_gone : Outcome → Bool
is_gone Gone = true
is_gone o = false

-- the act is done, or refused for one of these errors
abbrev pub is_done_unless : List Errno → Outcome → Bool
is_done_unless es o = is_done o || is_refused es o

-- a fetch of n bytes gives n bytes, or meets a fault
abbrev pub is_fetched : ℕ → Outcome → Bool
is_fetched n (Bytes bs) = length bs == n
is_fetched n o = is_fault o

-- the error for which the load was refused before, where it was
abbrev pub own_errors : Load → List Errno
own_errors (Body bytes) = []
own_errors (Faulted n) = []
own_errors (RefusedLoad e) = e ∷ []

-- a body of n bytes is accepted
abbrev pub is_size_of : Load → ℕ → Bool
is_size_of (Body bytes) n = length bytes == n
is_size_of (Faulted m) n = false
is_size_of (RefusedLoad e) n = false

-- the errors that the rules of a delivery name
abbrev pub deliver_errors : List Errno
deliver_errors = Srch ∷ NoDev ∷ ConnRefused ∷ MsgSize ∷ Again ∷ Busy ∷ efault ∷ []

-- a delivery accepts the body that it was given, or is refused: for an error that the rules name, or for the load's own
abbrev pub is_delivered : Load → Outcome → Bool
is_delivered load (Accepted n) = is_size_of load n
is_delivered load o = is_refused deliver_errors o || is_refused (own_errors load) o

-- a sweep tells the serial of a ring above the one that it began after, or that there is none; the caller may be off
abbrev pub is_swept : ℕ → Outcome → Bool
is_swept after (Swept serial) = nat_lt after serial
is_swept after NoMore = true
is_swept after o = is_refused (NoDev ∷ []) o

-- a question has an answer, with any flags; the caller may be off
abbrev pub is_answered : Outcome → Bool
is_answered (Answer a) = true
is_answered o = is_refused (NoDev ∷ []) o

abbrev pub is_looked : Outcome → Bool
is_looked (Flag set) = true
is_looked o = false

-- what an action of a caller that is there comes to
abbrev pub is_outcome_of : Action → Outcome → Bool
is_outcome_of Rest o = is_done o
is_outcome_of (Fetch page off n) o = is_fetched n o
is_outcome_of (Put page off bytes) o = is_done o || is_fault o
is_outcome_of (Register port partner len pages fail_exist) o = is_done_unless (Srch ∷ NoDev ∷ ConnRefused ∷ Exist ∷ NoSpc ∷ Inval ∷ []) o
is_outcome_of (Unregister port partner) o = is_done_unless (NoDev ∷ NoEnt ∷ []) o
is_outcome_of (Deliver port to to_port kind load) o = is_delivered load o
is_outcome_of (Sweep serial) o = is_swept serial o
is_outcome_of (Query to to_port need) o = is_answered o
is_outcome_of Look o = is_looked o
is_outcome_of (Destroy dom) o = is_done_unless (Srch ∷ []) o
is_outcome_of (Reset dom) o = is_done_unless (Srch ∷ []) o
is_outcome_of (Create dom) o = is_done_unless (Srch ∷ Exist ∷ []) o

-- every action can be `Gone`
abbrev pub can_have : Action → Outcome → Bool
can_have a o = is_gone o || is_outcome_of a o
