-- An outcome as two numbers: which outcome it is, and the number that it has.
use Rattle.std.specs.Prelude.{ℕ, if◌then◌else◌, length}
use Rattle.argo_base.specs.Errno.{number_of}
use Rattle.argo_model.specs.declared.short.Short.{Short}
use Rattle.argo_model.specs.declared.action.Outcome.{Outcome}
use Rattle.argo_model.specs.declared.action.Outcome.TheVariants.{Done, Bytes, Fault, Refused, Accepted, Swept, NoMore, Answer, Flag, Gone}

abbrev pub short : ℕ → ℕ → Short
short tag value = record { tag = tag; value = value }

-- the count of bytes, the number of the error, the size, the serial, the flags, or whether the flag was set; else 0
abbrev pub short_of : Outcome → Short
short_of Done = short 0 0
short_of (Bytes bs) = short 1 (length bs)
short_of Fault = short 2 0
short_of (Refused e) = short 3 (number_of e)
short_of (Accepted n) = short 4 n
short_of (Swept serial) = short 5 serial
short_of NoMore = short 6 0
short_of (Answer a) = short 7 a.flags
short_of (Flag set) = short 8 (if set then 1 else 0)
short_of Gone = short 9 0

-- where a schedule has no step
abbrev pub no_step : Short
no_step = short 10 0
