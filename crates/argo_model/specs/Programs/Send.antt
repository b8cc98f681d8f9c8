-- The hypercall sendv.
use Rattle.std.specs.Prelude.{ℕ, ◌*◌, ◌^◌, Bool, ◌&&◌, ◌||◌, not, ◌==◌, nat_lt, nat_le, List, [], pos, Result, Ok, Err}
use Rattle.argo_base.specs.declared.errno.Errno.{Errno}
use Rattle.argo_base.specs.declared.errno.Errno.TheVariants.{Inval, Perm}
use Rattle.argo_base.specs.declared.piece.Piece.{Piece}
use Rattle.argo_base.specs.Layout.{u16_at, u32_at}
use Rattle.argo_base.specs.Match.{is_wildcard}
use Rattle.argo_base.specs.Iovs.{Iov, iovs_at, verdict_of, gathered_pieces}
use Rattle.argo_model.specs.declared.action.Action.TheVariants.{Deliver}
use Rattle.argo_model.specs.declared.action.Load.{Load}
use Rattle.argo_model.specs.declared.action.Load.TheVariants.{Body, Faulted, Refused as RefusedLoad}
use Rattle.argo_model.specs.declared.action.Outcome.{Outcome}
use Rattle.argo_model.specs.declared.action.Outcome.TheVariants.{Refused, Accepted}
use Rattle.argo_model.specs.declared.reply.Reply.TheVariants.{Number}
use Rattle.argo_model.specs.Programs.Asks.{Say, Rests, ask, collect, read, refusal, refuse_if, refuse_at_once_if}

-- fetches the pieces of a body of n bytes, one after another, and goes on with the load: a page that is not there ends the gather,
-- not the line
abbrev pub gather : List Piece → List ℕ → ℕ → (Load → Rests) → Rests
gather ps got n k os = collect ps got (k (Faulted n)) (λ body. k (Body body)) os

-- replies the size of the body that was accepted, or the refusal
abbrev pub say_accepted : Outcome → Rests
say_accepted (Refused e) os = refusal e
say_accepted (Accepted n) os = Say (Number (pos n))
say_accepted o os = Say (Number (pos 0))

-- the load is delivered from the port that the caller named to the domain and port that it named, with A4 as the type
abbrev pub send_load : ℕ → List ℕ → Load → Rests
send_load a4 addr load os = ask (Deliver (u32_at addr 0) (u16_at addr 12) (u32_at addr 8) a4 load) say_accepted os

-- where the verdict is a refusal nothing is gathered
abbrev pub send_judged : ℕ → List ℕ → List Iov → Result ℕ Errno → Rests
send_judged a4 addr iovs (Err e) os = send_load a4 addr (RefusedLoad e) os
send_judged a4 addr iovs (Ok n) os = gather (gathered_pieces iovs) [] n (send_load a4 addr) os

-- the iovs are judged
abbrev pub send_iovs : ℕ → ℕ → List ℕ → List ℕ → Rests
send_iovs a3 a4 addr list os = send_judged a4 addr (iovs_at list a3) (verdict_of (iovs_at list a3)) os

-- both addresses have pad 0
abbrev pub is_send_addr : List ℕ → Bool
is_send_addr addr = (u16_at addr 6 == 0) && (u16_at addr 14 == 0)

-- the source names the caller, or the wildcard
abbrev pub is_own_source : ℕ → List ℕ → Bool
is_own_source caller addr = (u16_at addr 4 == caller) || is_wildcard (u16_at addr 4)

-- then the iovs at A2 are read, A3 of 16 bytes
abbrev pub send_head : ℕ → ℕ → ℕ → ℕ → List ℕ → Rests
send_head caller a2 a3 a4 addr os =
    refuse_if (not (is_send_addr addr)) Inval
    (λ os. refuse_if (not (is_own_source caller addr)) Perm (λ os. read a2 (16 * a3) (send_iovs a3 a4 addr) os) os) os

-- sendv: A3 is at most 8, A4 is a 32-bit type, and the addresses at A1 are read
abbrev pub sendv : ℕ → ℕ → ℕ → ℕ → ℕ → Rests
sendv caller a1 a2 a3 a4 os =
    refuse_at_once_if (nat_lt 8 a3 || nat_le (2 ^ 32) a4) Inval (λ os. read a1 16 (send_head caller a2 a3 a4) os) os
