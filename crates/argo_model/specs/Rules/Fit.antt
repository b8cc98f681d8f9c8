-- Which actions a section may perform.
use Rattle.std.specs.Prelude.{◌+◌, Bool, true, false, ◌&&◌, ◌==◌, nat_le, length}
use Rattle.argo_base.specs.declared.errno.Errno.{Errno}
use Rattle.argo_base.specs.declared.errno.Errno.TheVariants.{Perm, NoEnt, Srch, Again, Acces, Fault, Busy, Exist, NoDev, Inval, NoSpc, MsgSize, OpNotSupp, ConnRefused}
use Rattle.argo_base.specs.Slots.{is_legal, page_count}
use Rattle.argo_base.specs.Iovs.{longest_body}
use Rattle.argo_model.specs.declared.scripts.Actor.{Actor}
use Rattle.argo_model.specs.declared.scripts.Actor.TheVariants.{Vcpu, Control}
use Rattle.argo_model.specs.declared.action.Load.{Load}
use Rattle.argo_model.specs.declared.action.Load.TheVariants.{Body, Faulted, Refused}
use Rattle.argo_model.specs.declared.action.Action.{Action}
use Rattle.argo_model.specs.declared.action.Action.TheVariants.{Rest, Fetch, Put, Register, Unregister, Deliver, Sweep, Query, Look, Destroy, Reset, Create}

-- the refusals of buffers
abbrev pub is_verdict : Errno → Bool
is_verdict Perm = false
is_verdict NoEnt = false
is_verdict Srch = false
is_verdict Again = false
is_verdict Acces = false
is_verdict Fault = false
is_verdict Busy = false
is_verdict Exist = false
is_verdict NoDev = false
is_verdict Inval = true
is_verdict NoSpc = false
is_verdict MsgSize = true
is_verdict OpNotSupp = false
is_verdict ConnRefused = false

-- a body is no longer than the longest, and so is what a fault cut off
abbrev pub is_fit_load : Load → Bool
is_fit_load (Body bytes) = nat_le (length bytes) longest_body
is_fit_load (Faulted n) = nat_le n longest_body
is_fit_load (Refused e) = is_verdict e

-- a fetch or a put lies inside one page, and a ring has a legal length and as many pages as that takes
abbrev pub is_fit : Action → Bool
is_fit Rest = true
is_fit (Fetch page off n) = nat_le (off + n) 4096
is_fit (Put page off bytes) = nat_le (off + length bytes) 4096
is_fit (Register port partner len pages fail_exist) = is_legal len && (length pages == page_count len)
is_fit (Unregister port partner) = true
is_fit (Deliver port to to_port kind load) = is_fit_load load
is_fit (Sweep serial) = true
is_fit (Query to to_port need) = true
is_fit Look = true
is_fit (Destroy dom) = true
is_fit (Reset dom) = true
is_fit (Create dom) = true

-- an action of which neither its rule nor any rule that it names speaks of a caller
abbrev pub needs_no_caller : Action → Bool
needs_no_caller Rest = true
needs_no_caller (Fetch page off n) = false
needs_no_caller (Put page off bytes) = false
needs_no_caller (Register port partner len pages fail_exist) = false
needs_no_caller (Unregister port partner) = false
needs_no_caller (Deliver port to to_port kind load) = false
needs_no_caller (Sweep serial) = false
needs_no_caller (Query to to_port need) = false
needs_no_caller Look = false
needs_no_caller (Destroy dom) = true
needs_no_caller (Reset dom) = true
needs_no_caller (Create dom) = true

-- a virtual CPU may perform each action that is fit, and the control section those alone that need no caller
abbrev pub is_fit_for : Actor → Action → Bool
is_fit_for (Vcpu d generation) a = is_fit a
is_fit_for Control a = is_fit a && needs_no_caller a
