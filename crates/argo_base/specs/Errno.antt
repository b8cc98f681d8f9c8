-- The numbers of the errors, as Xen's errno.h has them.
use Rattle.std.specs.Prelude.{ℕ}
use Rattle.argo_base.specs.declared.errno.Errno.{Errno}
use Rattle.argo_base.specs.declared.errno.Errno.TheVariants.{Perm, NoEnt, Srch, Again, Acces, Fault, Busy, Exist, NoDev, Inval, NoSpc, MsgSize, OpNotSupp, ConnRefused}

abbrev pub number_of : Errno → ℕ
number_of Perm = 1
number_of NoEnt = 2
number_of Srch = 3
number_of Again = 11
number_of Acces = 13
number_of Fault = 14
number_of Busy = 16
number_of Exist = 17
number_of NoDev = 19
number_of Inval = 22
number_of NoSpc = 28
number_of MsgSize = 90
number_of OpNotSupp = 95
number_of ConnRefused = 111
