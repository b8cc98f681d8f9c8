-- Laws of the programs of lines: each put lies in one page, and each ring that is registered has a legal length and its pages.
use Rattle.std.proofs.Common.{◌≡◌, ℕ, zero, suc, ◌+◌, ◌-◌, ◌*◌, ◌^◌, Bool, true, false, not, ◌&&◌, ◌||◌, ◌==◌, nat_lt, nat_le, List, [], ◌∷◌, ◌++◌, length, Result, Ok, Err, refl, ◌∙◌, arith}
use Rattle.std.specs.List.{range_with_len}
use Rattle.std.proofs.lemmas.List.{length-map}
use Rattle.std.proofs.lemmas.List.FromFn.{length-range_with_len}
use Rattle.std.proofs.lemmas.Bool.{and_parts}
use Rattle.std.proofs.lemmas.Bool.Decides.{nat_tests}
use Rattle.argo_base.specs.declared.errno.Errno.{Errno}
use Rattle.argo_base.specs.declared.errno.Errno.TheVariants.{Inval, Perm, Acces, Fault as efault, OpNotSupp}
use Rattle.argo_base.specs.declared.piece.Piece.{Piece}
use Rattle.argo_base.specs.Iovs.{Iov, iovs_at, verdict_of, gathered_pieces}
use Rattle.argo_base.specs.Layout.{u16_at, u32_at, u32_bytes, u64_at, numbers_at, answer_bytes}
use Rattle.argo_base.specs.Pieces.{pieces}
use Rattle.argo_base.specs.Slots.{is_legal, is_place, page_count, place_after, up}
use Rattle.argo_model.specs.declared.scripts.Actor.{Actor}
use Rattle.argo_model.specs.declared.line.Line.{Line}
use Rattle.argo_model.specs.declared.line.Line.TheVariants.{Store, Load, Op, Await, Recv, Destroy, Reset, Create}
use Rattle.argo_model.specs.declared.action.Action.TheVariants.{Fetch, Register, Unregister, Deliver, Sweep, Query, Look, Destroy as DestroyNow, Reset as ResetNow, Create as CreateNow}
use Rattle.argo_model.specs.declared.action.Load.{Load as Gathered}
use Rattle.argo_model.specs.declared.action.Load.TheVariants.{Body, Faulted, Refused as RefusedLoad}
use Rattle.argo_model.specs.declared.action.Outcome.{Outcome}
use Rattle.argo_model.specs.declared.action.Outcome.TheVariants.{Done, Bytes, Fault, Refused, Accepted, Swept, NoMore, Answer, Flag, Gone}
use Rattle.argo_model.specs.declared.reply.Reply.{Reply}
use Rattle.argo_model.specs.declared.reply.Reply.TheVariants.{Stored, Hex, Fault as fault, Bad, Empty}
use Rattle.argo_model.specs.Rules.Limits.{most_rings, most_entries}
use Rattle.argo_model.specs.Programs.Asks.{Say, Rests, ask, fetch_all, refusal, refuse_if, read, say_done}
use Rattle.argo_model.specs.Programs.Program.{if_flag, await, Command, RegisterRing, UnregisterRing, SendV, Notify, Unknown, command_of, op, caller_of, program}
use Rattle.argo_model.specs.Programs.Register.{register_pages, is_register_head, register_head, register_ring, unregister_head, has_more, unregister_ring}
use Rattle.argo_model.specs.Programs.Send.{gather, say_accepted, send_load, send_judged, send_iovs, is_send_addr, is_own_source, send_head, sendv}
use Rattle.argo_model.specs.Programs.Notify.{if_swept, sweep_rings, if_answered, answer_entry, answer_entries, entries_at, notify_head, notify_entries, notify}
use Rattle.argo_model.specs.Programs.Recv.{Found, FoundMessage, FoundEmpty, FoundBad, FoundFault, end_if, slot_pieces, take_slots, message_of, recv_body, is_message_size, recv_head, recv_words, recv_tx, say_found, recv}
use Rattle.state_laws.proofs.Asks.{IsLying, Lie, LieAfter, lie_ask, pieces_in_page, lie_put_all, lie_collect, lie_fetch_all, lie_read, lie_if, lie_at_once, lie_at_once_if, lie_say_done}

-- ---- register and unregister

eqb_is : (a b : ℕ) → (a == b) ≡ true → a ≡ b
eqb_is a b h = grind (arith, nat_tests)

not_false : (b : Bool) → not b ≡ false → b ≡ true
not_false true h = refl
not_false false h = cc

lie_register : (a1 a2 a3 a4 : ℕ) → Lie (register_ring a1 a2 a3 a4)
lie_register a1 a2 a3 a4 = lie_at_once_if (nat_lt 1 a4) Inval (λ os. read a1 12 (register_head a2 a3 a4) os) (lie_read a1 12 (register_head a2 a3 a4) head) where
  pages : (head list : List ℕ) → is_register_head a3 head ≡ true → Lie (register_pages a3 a4 head list)
  pages head list h =
      let p = and_parts ((u16_at head 6 == 0) && is_legal (u32_at head 8)) (a3 == page_count (u32_at head 8)) h in
      let q = and_parts (u16_at head 6 == 0) (is_legal (u32_at head 8)) p.0 in
      lie_ask (Register (u32_at head 0) (u16_at head 4) (u32_at head 8) (numbers_at list a3) (a4 == 1)) say_done
      (q.1, length-map (range_with_len 0 a3) (λ i. u64_at list (8 * i)) ∙ length-range_with_len 0 a3 ∙ eqb_is a3 (page_count (u32_at head 8)) p.1) lie_say_done

  head : (bs : List ℕ) → Lie (register_head a2 a3 a4 bs)
  head bs =
      lie_if (not (is_register_head a3 bs)) Inval (λ os. read a2 (8 * a3) (register_pages a3 a4 bs) os)
      (λ h. lie_read a2 (8 * a3) (register_pages a3 a4 bs) (λ list. pages bs list (not_false (is_register_head a3 bs) h)))

lie_unregister : (a1 a2 a3 a4 : ℕ) → Lie (unregister_ring a1 a2 a3 a4)
lie_unregister a1 a2 a3 a4 =
    lie_at_once_if (has_more a2 a3 a4) Inval (λ os. read a1 8 unregister_head os)
    (lie_read a1 8 unregister_head
    (λ head. lie_if (not (u16_at head 6 == 0)) Inval (λ os. ask (Unregister (u32_at head 0) (u16_at head 4)) say_done os)
    (λ h. lie_ask (Unregister (u32_at head 0) (u16_at head 4)) say_done tt lie_say_done)))

-- ---- sendv

lie_gather : (ps : List Piece) (got : List ℕ) (n : ℕ) (k : Gathered → Rests) → ((l : Gathered) → Lie (k l)) → Lie (gather ps got n k)
lie_gather ps got n k h = lie_collect ps got (k (Faulted n)) (λ body. k (Body body)) (h (Faulted n)) (λ body. h (Body body))

lie_accepted : LieAfter say_accepted
lie_accepted Done os = tt
lie_accepted (Bytes bs) os = tt
lie_accepted Fault os = tt
lie_accepted (Refused e) os = tt
lie_accepted (Accepted n) os = tt
lie_accepted (Swept n) os = tt
lie_accepted NoMore os = tt
lie_accepted (Answer a) os = tt
lie_accepted (Flag b) os = tt
lie_accepted Gone os = tt

lie_load : (a4 : ℕ) (addr : List ℕ) (l : Gathered) → Lie (send_load a4 addr l)
lie_load a4 addr l = lie_ask (Deliver (u32_at addr 0) (u16_at addr 12) (u32_at addr 8) a4 l) say_accepted tt lie_accepted

lie_judged : (a4 : ℕ) (addr : List ℕ) (iovs : List Iov) (r : Result ℕ Errno) → Lie (send_judged a4 addr iovs r)
lie_judged a4 addr iovs (Err e) = lie_load a4 addr (RefusedLoad e)
lie_judged a4 addr iovs (Ok n) = lie_gather (gathered_pieces iovs) [] n (send_load a4 addr) (lie_load a4 addr)

lie_send : (caller a1 a2 a3 a4 : ℕ) → Lie (sendv caller a1 a2 a3 a4)
lie_send caller a1 a2 a3 a4 =
    lie_at_once_if (nat_lt 8 a3 || nat_le (2 ^ 32) a4) Inval (λ os. read a1 16 (send_head caller a2 a3 a4) os) (lie_read a1 16 (send_head caller a2 a3 a4) head) where
      head : (addr : List ℕ) → Lie (send_head caller a2 a3 a4 addr)
      head addr =
          lie_if (not (is_send_addr addr)) Inval (λ os. refuse_if (not (is_own_source caller addr)) Perm (λ os. read a2 (16 * a3) (send_iovs a3 a4 addr) os) os)
          (λ h. lie_if (not (is_own_source caller addr)) Perm (λ os. read a2 (16 * a3) (send_iovs a3 a4 addr) os)
          (λ g. lie_read a2 (16 * a3) (send_iovs a3 a4 addr) (λ list. lie_judged a4 addr (iovs_at list a3) (verdict_of (iovs_at list a3)))))

-- ---- notify

lie_swept : (more : ℕ → Rests) (done : Rests) → ((n : ℕ) → Lie (more n)) → Lie done → LieAfter (if_swept more done)
lie_swept more done h g Done os = g os
lie_swept more done h g (Bytes bs) os = g os
lie_swept more done h g Fault os = g os
lie_swept more done h g (Refused e) os = tt
lie_swept more done h g (Accepted n) os = g os
lie_swept more done h g (Swept n) os = h n os
lie_swept more done h g NoMore os = g os
lie_swept more done h g (Answer a) os = g os
lie_swept more done h g (Flag b) os = g os
lie_swept more done h g Gone os = g os

lie_sweeps : (n after : ℕ) (done : Rests) → Lie done → Lie (sweep_rings n after done)
lie_sweeps zero after done h os = h os
lie_sweeps (suc n) after done h os =
    lie_ask (Sweep after) (if_swept (λ serial os. sweep_rings n serial done os) done) tt (lie_swept (λ serial os. sweep_rings n serial done os) done (λ serial. lie_sweeps n serial done h) h) os

lie_answered : (at : ℕ) (more : Rests) → Lie more → LieAfter (if_answered at more)
lie_answered at more h Done os = h os
lie_answered at more h (Bytes bs) os = h os
lie_answered at more h Fault os = h os
lie_answered at more h (Refused e) os = tt
lie_answered at more h (Accepted n) os = h os
lie_answered at more h (Swept n) os = h os
lie_answered at more h NoMore os = h os
lie_answered at more h (Answer a) os = lie_put_all (pieces (at + 8) 12) (answer_bytes a.flags 0 a.need a.most) (refusal efault) more (pieces_in_page (at + 8) 12) tt h os
lie_answered at more h (Flag b) os = h os
lie_answered at more h Gone os = h os

lie_entry : (at : ℕ) (entry : List ℕ) (more : Rests) → Lie more → Lie (answer_entry at entry more)
lie_entry at entry more h =
    lie_if (not ((u16_at entry 6 == 0) && (u16_at entry 10 == 0))) Inval (λ os. ask (Query (u16_at entry 4) (u32_at entry 0) (u32_at entry 12)) (if_answered at more) os)
    (λ e. lie_ask (Query (u16_at entry 4) (u32_at entry 0) (u32_at entry 12)) (if_answered at more) tt (lie_answered at more h))

lie_entries : (ats : List ℕ) → Lie (answer_entries ats)
lie_entries [] os = tt
lie_entries (at ∷ ats) os =
    lie_read at 20 (λ entry os. answer_entry at entry (λ os. answer_entries ats os) os) (λ entry. lie_entry at entry (λ os. answer_entries ats os) (lie_entries ats)) os

lie_notify_entries : (a1 : ℕ) → Lie (notify_entries a1)
lie_notify_entries zero os = tt
lie_notify_entries (suc a) os =
    lie_read (suc a) 8 (notify_head (suc a))
    (λ head. lie_if (not (u32_at head 4 == 0)) Inval (λ os. refuse_if (nat_lt most_entries (u32_at head 0)) Acces (λ os. answer_entries (entries_at (suc a) (u32_at head 0)) os) os)
    (λ e. lie_if (nat_lt most_entries (u32_at head 0)) Acces (λ os. answer_entries (entries_at (suc a) (u32_at head 0)) os) (λ f. lie_entries (entries_at (suc a) (u32_at head 0))))) os

lie_notify : (a1 a2 a3 a4 : ℕ) → Lie (notify a1 a2 a3 a4)
lie_notify a1 a2 a3 a4 =
    lie_at_once_if (has_more a2 a3 a4) Inval (λ os. sweep_rings most_rings 0 (notify_entries a1) os) (lie_sweeps most_rings 0 (notify_entries a1) (lie_notify_entries a1))

-- ---- recv

lie_found : (f : Found) → IsLying (say_found f)
lie_found (FoundMessage size message) = tt
lie_found FoundEmpty = tt
lie_found FoundBad = tt
lie_found FoundFault = tt

lie_end_if : (test : Bool) (f : Found) (k : Rests) → Lie k → Lie (end_if test (say_found f) k)
lie_end_if true f k h os = lie_found f
lie_end_if false f k h os = h os

lie_slots : (ring len at n : ℕ) (k : List ℕ → Rests) → ((bs : List ℕ) → Lie (k bs)) → Lie (take_slots say_found ring len at n k)
lie_slots ring len at n k h = lie_fetch_all (slot_pieces ring len at n) [] (Say fault) k tt h

lie_recv : (page len : ℕ) → Lie (recv page len)
lie_recv page len =
    lie_fetch_all (pieces (page * 4096) 4) [] (Say fault) (λ rx os. recv_tx say_found (page * 4096) len (u32_at rx 0) os) tt (λ rx. last (u32_at rx 0)) where
      body : (rx : ℕ) (head bs : List ℕ) → Lie (recv_body say_found (page * 4096) len rx head bs)
      body rx head bs =
          lie_put_all (pieces (page * 4096) 4) (u32_bytes (place_after len rx (up (u32_at head 0)))) (Say fault) (λ os. say_found (FoundMessage (u32_at head 0 - 16) (message_of head bs)))
          (pieces_in_page (page * 4096) 4) tt (λ os. tt)

      head : (rx tx : ℕ) (bs : List ℕ) → Lie (recv_head say_found (page * 4096) len rx tx bs)
      head rx tx bs =
          lie_end_if (not (is_message_size len rx tx (u32_at bs 0))) FoundBad
          (λ os. take_slots say_found (page * 4096) len (place_after len rx 16) (u32_at bs 0 - 16) (recv_body say_found (page * 4096) len rx bs) os)
          (lie_slots (page * 4096) len (place_after len rx 16) (u32_at bs 0 - 16) (recv_body say_found (page * 4096) len rx bs) (body rx bs))

      words : (rx tx : ℕ) → Lie (recv_words say_found (page * 4096) len rx tx)
      words rx tx =
          lie_end_if (not (is_place len rx && is_place len tx)) FoundBad
          (λ os. end_if (rx == tx) (say_found FoundEmpty) (λ os. take_slots say_found (page * 4096) len rx 16 (recv_head say_found (page * 4096) len rx tx) os) os)
          (lie_end_if (rx == tx) FoundEmpty (λ os. take_slots say_found (page * 4096) len rx 16 (recv_head say_found (page * 4096) len rx tx) os)
          (lie_slots (page * 4096) len rx 16 (recv_head say_found (page * 4096) len rx tx) (head rx tx)))

      last : (rx : ℕ) → Lie (recv_tx say_found (page * 4096) len rx)
      last rx =
          lie_fetch_all (pieces (page * 4096 + 4) 4) [] (Say fault) (λ tx os. recv_words say_found (page * 4096) len rx (u32_at tx 0) os) tt (λ tx. words rx (u32_at tx 0))

-- ---- lines

lie_flag : (more : Rests) → Lie more → LieAfter (if_flag more)
lie_flag more h Done os = h os
lie_flag more h (Bytes bs) os = h os
lie_flag more h Fault os = h os
lie_flag more h (Refused e) os = h os
lie_flag more h (Accepted n) os = h os
lie_flag more h (Swept n) os = h os
lie_flag more h NoMore os = h os
lie_flag more h (Answer a) os = h os
lie_flag more h (Flag true) os = tt
lie_flag more h (Flag false) os = h os
lie_flag more h Gone os = h os

lie_await : (n : ℕ) → Lie (await n)
lie_await zero os = tt
lie_await (suc n) os = lie_ask Look (if_flag (λ os. await n os)) tt (lie_flag (λ os. await n os) (lie_await n)) os

lie_op : (caller : ℕ) (c : Command) (a1 a2 a3 a4 : ℕ) → Lie (op caller c a1 a2 a3 a4)
lie_op caller RegisterRing a1 a2 a3 a4 = lie_register a1 a2 a3 a4
lie_op caller UnregisterRing a1 a2 a3 a4 = lie_unregister a1 a2 a3 a4
lie_op caller SendV a1 a2 a3 a4 = lie_send caller a1 a2 a3 a4
lie_op caller Notify a1 a2 a3 a4 = lie_notify a1 a2 a3 a4
lie_op caller Unknown a1 a2 a3 a4 = lie_at_once OpNotSupp

pub lie_program : (actor : Actor) (line : Line) (os : List Outcome) → IsLying (program actor line os)
lie_program actor (Store at bytes) os = lie_put_all (pieces at (length bytes)) bytes (Say fault) (λ os. Say Stored) (pieces_in_page at (length bytes)) tt (λ os. tt) os
lie_program actor (Load at n) os = lie_fetch_all (pieces at n) [] (Say fault) (λ bs os. Say (Hex bs)) tt (λ bs os. tt) os
lie_program actor (Op c a1 a2 a3 a4) os = lie_op (caller_of actor) (command_of c) a1 a2 a3 a4 os
lie_program actor (Await turns) os = lie_await turns os
lie_program actor (Recv page len) os = lie_recv page len os
lie_program actor (Destroy d) os = lie_ask (DestroyNow d) say_done tt lie_say_done os
lie_program actor (Reset d) os = lie_ask (ResetNow d) say_done tt lie_say_done os
lie_program actor (Create d) os = lie_ask (CreateNow d) say_done tt lie_say_done os
