-- What follows the fetches of sendv.
use Rattle.std.specs.Prelude.{◌≡◌, ℕ, ◌+◌, ◌-◌, ◌*◌, ◌<◌, ◌≤◌, Bool, ◌&&◌, ◌||◌, ◌==◌, List, [], ◌++◌, length, drop, sum_by, Option, Some, None, Result, Ok, Err}
use Rattle.argo_base.specs.declared.errno.Errno.{Errno}
use Rattle.argo_base.specs.declared.errno.Errno.TheVariants.{Fault as efault}
use Rattle.argo_base.specs.Pieces.{pieces}
use Rattle.argo_base.specs.Match.{is_wildcard}
use Rattle.argo_abi.specs.declared.send_addr.SendAddr.{SendAddr}
use Rattle.argo_base.specs.Iovs.{Iov, iovs_at, verdict_of, gathered_pieces}
use Rattle.argo_base.specs.Limits.{longest_body}
use Rattle.argo_model.specs.Rules.Access.{delivered_to}
use Rattle.argo_model.specs.declared.action.Load.{Load}
use Rattle.argo_model.specs.declared.action.Load.TheVariants.{Faulted, Refused as RefusedLoad}
use Rattle.argo_model.specs.declared.action.Address.{Address}
use Rattle.line_phase.specs.declared.reads.Gather.{Gather}
use Rattle.line_phase.specs.declared.reads.SendArgs.{SendArgs}
use Rattle.line_phase.specs.declared.reads.SendRead.{SendRead}
use Rattle.line_phase.specs.declared.reads.SendRead.TheVariants.{Head, Iovs, Body}
use Rattle.argo_model.specs.Programs.Asks.{Rests, ask, refusal}
use Rattle.argo_model.specs.Programs.Send.{say_accepted, gather, send_head}

-- both pads are 0
abbrev pub clear_pads : SendAddr → Bool
clear_pads addr = (addr.src.pad == 0) && (addr.dst.pad == 0)

-- the source names the caller, or the wildcard
abbrev pub own_source : ℕ → SendAddr → Bool
own_source caller addr = (addr.src.domain_id == caller) || is_wildcard addr.src.domain_id

-- the load is delivered
abbrev pub deliver_to : Address → Load → Rests
deliver_to a load os = ask (delivered_to a load) say_accepted os

-- the verdict on the iovs is followed
abbrev pub send_judged_to : Address → List Iov → Result ℕ Errno → Rests
send_judged_to a iovs (Err e) os = deliver_to a (RefusedLoad e) os
send_judged_to a iovs (Ok n) os = gather (gathered_pieces iovs) [] n (deliver_to a) os

-- the bytes of some iovs
abbrev pub bytes_of : List Iov → ℕ
bytes_of iovs = sum_by (λ v. v.len) iovs

-- those that a gather has still to come to
abbrev pub iovs_left : Gather → List Iov
iovs_left g = drop g.next (iovs_at g.list.items g.count)

-- from a place on, this is the first buffer that has bytes
pub record IsFirstBuffer (iovs : List Iov) (from place : ℕ) (v : Iov) : Type 0 where
  pub within : place < length iovs
  pub some : 0 < v.len
  pub pieces_are : gathered_pieces (drop from iovs) ≡ pieces v.hnd v.len ++ gathered_pieces (drop (place + 1) iovs)
  pub bytes_are : bytes_of (drop from iovs) ≡ v.len + bytes_of (drop (place + 1) iovs)

-- from a place on, no buffer has bytes, or this is the first
abbrev pub IsNextBuffer : List Iov → ℕ → Option (ℕ × Iov) → Type 0
IsNextBuffer iovs from None = (gathered_pieces (drop from iovs) ≡ []) × (bytes_of (drop from iovs) ≡ 0)
IsNextBuffer iovs from (Some (place, v)) = IsFirstBuffer iovs from place v

-- the buffers from a place up to another have no bytes
pub record SkipsTo (iovs : List Iov) (from place : ℕ) : Type 0 where
  pub pieces_are : gathered_pieces (drop from iovs) ≡ gathered_pieces (drop place iovs)
  pub bytes_are : bytes_of (drop from iovs) ≡ bytes_of (drop place iovs)

-- the buffers are there, and the body is no longer than the longest
pub record IsGather (g : Gather) : Type 0 where
  pub listed : length g.list.items ≡ 16 * g.count
  pub count_within : g.count ≤ 8
  pub next_within : g.next ≤ g.count
  pub size_within : g.size ≤ longest_body
  pub later_is : g.later ≡ bytes_of (iovs_left g)
  pub later_within : g.later ≤ g.size

-- what is left of a gather that got these bytes so far
abbrev pub gather_on : Gather → List ℕ → Rests
gather_on g got = gather (gathered_pieces (iovs_left g)) got g.size (deliver_to g.address)

-- how many actions that is at most
abbrev pub gather_left : Gather → ℕ
gather_left g = length (gathered_pieces (iovs_left g)) + 1

-- iovs are judged, and the verdict on them is followed
abbrev pub judge_iovs : Address → List Iov → Rests
judge_iovs a iovs = send_judged_to a iovs (verdict_of iovs)

-- the addresses are looked at
abbrev pub head_of_send : SendArgs → List ℕ → Rests
head_of_send a addr os = send_head a.caller a.iovs a.count a.kind addr os

-- what follows the bytes
abbrev pub after_send_read : SendRead → List ℕ → Rests
after_send_read (Head args) addr os = head_of_send args addr os
after_send_read (Iovs count a) list os = judge_iovs a (iovs_at list count) os
after_send_read (Body g) got os = gather_on g got os

-- what follows a page that is not there: a refusal, but a gather is delivered as one that met a fault
abbrev pub after_send_fault : SendRead → Rests
after_send_fault (Head args) os = refusal efault
after_send_fault (Iovs count a) os = refusal efault
after_send_fault (Body g) os = deliver_to g.address (Faulted g.size) os

-- how many bytes there are
abbrev pub send_size : SendRead → ℕ
send_size (Head args) = 16
send_size (Iovs count a) = 16 * count
send_size (Body g) = g.size - g.later

-- there are at most 8 iovs, and a gather is as it must be
abbrev pub IsSendRead : SendRead → Type 0
IsSendRead (Head args) = args.count ≤ 8
IsSendRead (Iovs count a) = count ≤ 8
IsSendRead (Body g) = IsGather g

-- how many actions follow the bytes at most: a gather has at most 4,111 pieces
abbrev pub most_after_send : SendRead → ℕ
most_after_send (Head args) = 4115
most_after_send (Iovs count a) = 4112
most_after_send (Body g) = gather_left g
