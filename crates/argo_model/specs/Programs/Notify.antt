-- The hypercall notify.
use Rattle.std.specs.Prelude.{ℕ, zero, suc, ◌+◌, ◌*◌, ◌&&◌, not, ◌==◌, nat_lt, List, [], ◌∷◌, map, pos}
use Rattle.std.specs.List.{range_with_len}
use Rattle.argo_base.specs.declared.errno.Errno.TheVariants.{Inval, Acces, Fault as efault}
use Rattle.argo_base.specs.Layout.{u16_at, u32_at, answer_bytes}
use Rattle.argo_base.specs.Pieces.{pieces}
use Rattle.argo_model.specs.declared.action.Action.TheVariants.{Sweep, Query}
use Rattle.argo_model.specs.declared.action.Outcome.{Outcome}
use Rattle.argo_model.specs.declared.action.Outcome.TheVariants.{Refused, Swept, Answer as Answered}
use Rattle.argo_model.specs.declared.reply.Reply.TheVariants.{Number}
use Rattle.argo_model.specs.Rules.Limits.{most_rings, most_entries}
use Rattle.argo_model.specs.Programs.Asks.{Say, Rests, ask, read, put_all, refusal, refuse_if, refuse_at_once_if}
use Rattle.argo_model.specs.Programs.Register.{has_more}

-- a sweep of a ring is followed by the next; a refusal is the reply; and where no ring is left the call goes on
abbrev pub if_swept : (ℕ → Rests) → Rests → Outcome → Rests
if_swept more done (Swept serial) os = more serial os
if_swept more done (Refused e) os = refusal e
if_swept more done o os = done os

-- sweeps the rings after a serial, at most so many, by rising serial
abbrev pub sweep_rings : ℕ → ℕ → Rests → Rests
sweep_rings zero after done os = done os
sweep_rings (suc n) after done os = ask (Sweep after) (if_swept (λ serial os. sweep_rings n serial done os) done) os

-- the answer is put into the last 12 bytes of an entry
abbrev pub if_answered : ℕ → Rests → Outcome → Rests
if_answered at more (Answered a) os =
    put_all (pieces (at + 8) 12) (answer_bytes a.flags 0 a.need a.most) (refusal efault) more os
if_answered at more (Refused e) os = refusal e
if_answered at more o os = more os

-- an entry of which both pads are 0 asks for room in the ring at its address
abbrev pub answer_entry : ℕ → List ℕ → Rests → Rests
answer_entry at entry more os =
    refuse_if (not ((u16_at entry 6 == 0) && (u16_at entry 10 == 0))) Inval
    (λ os. ask (Query (u16_at entry 4) (u32_at entry 0) (u32_at entry 12)) (if_answered at more) os) os

-- the entries at these addresses, each read and answered before the next
abbrev pub answer_entries : List ℕ → Rests
answer_entries [] os = Say (Number (pos 0))
answer_entries (at ∷ ats) os = read at 20 (λ entry os. answer_entry at entry (λ os. answer_entries ats os) os) os

-- the addresses of the entries, 20 bytes each, behind the 8 bytes at A1
abbrev pub entries_at : ℕ → ℕ → List ℕ
entries_at a1 nent = map (λ i. a1 + 8 + 20 * i) (range_with_len 0 nent)

-- the head has pad 0, and counts at most 256 entries
abbrev pub notify_head : ℕ → List ℕ → Rests
notify_head a1 head os =
    refuse_if (not (u32_at head 4 == 0)) Inval
    (λ os. refuse_if (nat_lt most_entries (u32_at head 0)) Acces (λ os. answer_entries (entries_at a1 (u32_at head 0)) os) os) os

-- where A1 is 0 there are no entries
abbrev pub notify_entries : ℕ → Rests
notify_entries zero os = Say (Number (pos 0))
notify_entries (suc a) os = read (suc a) 8 (notify_head (suc a)) os

-- notify: it takes A1 alone; first at most 128 of the caller's rings are swept
abbrev pub notify : ℕ → ℕ → ℕ → ℕ → Rests
notify a1 a2 a3 a4 os =
    refuse_at_once_if (has_more a2 a3 a4) Inval (λ os. sweep_rings most_rings 0 (notify_entries a1) os) os
