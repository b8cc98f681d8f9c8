-- Laws of the programs of lines: none but a destroy line's destroys a domain.
use Rattle.std.proofs.Common.{ℕ, zero, suc, ◌+◌, ◌-◌, ◌*◌, ◌^◌, Bool, true, false, not, ◌&&◌, ◌||◌, ◌==◌, nat_lt, nat_le, List, [], ◌∷◌, length, Result, Ok, Err, IsTrue, refl}
use Rattle.argo_base.specs.declared.errno.Errno.{Errno}
use Rattle.argo_base.specs.declared.errno.Errno.TheVariants.{Inval, Perm, Acces, Fault as efault, OpNotSupp}
use Rattle.argo_base.specs.declared.piece.Piece.{Piece}
use Rattle.argo_base.specs.Iovs.{Iov, iovs_at, verdict_of, gathered_pieces}
use Rattle.argo_base.specs.Layout.{u16_at, u32_at, u32_bytes, numbers_at, answer_bytes}
use Rattle.argo_base.specs.Pieces.{pieces}
use Rattle.argo_base.specs.Slots.{is_place, place_after, up}
use Rattle.argo_model.specs.declared.scripts.Actor.{Actor}
use Rattle.argo_model.specs.declared.line.Line.{Line}
use Rattle.argo_model.specs.declared.line.Line.TheVariants.{Store, Load, Op, Await, Recv, Destroy, Reset, Create}
use Rattle.argo_model.specs.declared.action.Action.TheVariants.{Register, Unregister, Deliver, Sweep, Query, Look, Destroy as DestroyNow, Reset as ResetNow, Create as CreateNow}
use Rattle.argo_model.specs.declared.action.Load.{Load as Gathered}
use Rattle.argo_model.specs.declared.action.Load.TheVariants.{Body, Faulted, Refused as RefusedLoad}
use Rattle.argo_model.specs.declared.action.Outcome.{Outcome}
use Rattle.argo_model.specs.declared.action.Outcome.TheVariants.{Done, Bytes, Fault, Refused, Accepted, Swept, NoMore, Answer, Flag, Gone}
use Rattle.argo_model.specs.declared.reply.Reply.TheVariants.{Stored, Hex, Fault as fault}
use Rattle.argo_model.specs.Rules.Limits.{most_rings, most_entries}
use Rattle.argo_model.specs.Rules.Possible.{Facts}
use Rattle.argo_model.specs.Programs.Asks.{Say, Rests, ask, refusal, refuse_if, read, say_done}
use Rattle.argo_model.specs.Programs.Program.{if_flag, await, Command, RegisterRing, UnregisterRing, SendV, Notify, Unknown, command_of, op, caller_of, program}
use Rattle.argo_model.specs.Programs.Register.{register_pages, is_register_head, register_head, register_ring, unregister_head, has_more, unregister_ring}
use Rattle.argo_model.specs.Programs.Send.{gather, say_accepted, send_load, send_judged, send_iovs, is_send_addr, is_own_source, send_head, sendv}
use Rattle.argo_model.specs.Programs.Notify.{if_swept, sweep_rings, if_answered, answer_entry, answer_entries, entries_at, notify_head, notify_entries, notify}
use Rattle.argo_model.specs.Programs.Recv.{Found, FoundMessage, FoundEmpty, FoundBad, FoundFault, end_if, slot_pieces, take_slots, message_of, recv_body, is_message_size, recv_head, recv_words, recv_tx, say_found, recv}
use Rattle.thread_run.specs.Ends.{line_may_end}
use Rattle.thread_run.proofs.AskLaws.{MayCome, Spares, SparesAfter, spare_ask, spare_put_all, spare_collect, spare_fetch_all, spare_read, spare_if, spare_at_once, spare_at_once_if, spare_say_done}

module _ (f : Facts) where
  -- ---- register and unregister

  spare_register : (a1 a2 a3 a4 : ℕ) → Spares f (register_ring a1 a2 a3 a4)
  spare_register a1 a2 a3 a4 = spare_at_once_if f (nat_lt 1 a4) Inval (λ os. read a1 12 (register_head a2 a3 a4) os) (spare_read f a1 12 (register_head a2 a3 a4) head) where
    pages : (head list : List ℕ) → Spares f (register_pages a3 a4 head list)
    pages head list = spare_ask f (Register (u32_at head 0) (u16_at head 4) (u32_at head 8) (numbers_at list a3) (a4 == 1)) say_done refl (spare_say_done f)

    head : (bs : List ℕ) → Spares f (register_head a2 a3 a4 bs)
    head bs =
        spare_if f (not (is_register_head a3 bs)) Inval (λ os. read a2 (8 * a3) (register_pages a3 a4 bs) os)
        (spare_read f a2 (8 * a3) (register_pages a3 a4 bs) (pages bs))

  spare_unregister : (a1 a2 a3 a4 : ℕ) → Spares f (unregister_ring a1 a2 a3 a4)
  spare_unregister a1 a2 a3 a4 =
      spare_at_once_if f (has_more a2 a3 a4) Inval (λ os. read a1 8 unregister_head os)
      (spare_read f a1 8 unregister_head
      (λ head. spare_if f (not (u16_at head 6 == 0)) Inval (λ os. ask (Unregister (u32_at head 0) (u16_at head 4)) say_done os)
      (spare_ask f (Unregister (u32_at head 0) (u16_at head 4)) say_done refl (spare_say_done f))))

  -- ---- sendv

  spare_gather : (ps : List Piece) (got : List ℕ) (n : ℕ) (k : Gathered → Rests) → ((l : Gathered) → Spares f (k l)) → Spares f (gather ps got n k)
  spare_gather ps got n k h = spare_collect f ps got (k (Faulted n)) (λ body. k (Body body)) (h (Faulted n)) (λ body. h (Body body))

  spare_accepted : SparesAfter f say_accepted
  spare_accepted Done os = tt
  spare_accepted (Bytes bs) os = tt
  spare_accepted Fault os = tt
  spare_accepted (Refused e) os = tt
  spare_accepted (Accepted n) os = tt
  spare_accepted (Swept n) os = tt
  spare_accepted NoMore os = tt
  spare_accepted (Answer a) os = tt
  spare_accepted (Flag b) os = tt
  spare_accepted Gone os = tt

  spare_load : (a4 : ℕ) (addr : List ℕ) (l : Gathered) → Spares f (send_load a4 addr l)
  spare_load a4 addr l = spare_ask f (Deliver (u32_at addr 0) (u16_at addr 12) (u32_at addr 8) a4 l) say_accepted refl spare_accepted

  spare_judged : (a4 : ℕ) (addr : List ℕ) (iovs : List Iov) (r : Result ℕ Errno) → Spares f (send_judged a4 addr iovs r)
  spare_judged a4 addr iovs (Err e) = spare_load a4 addr (RefusedLoad e)
  spare_judged a4 addr iovs (Ok n) = spare_gather (gathered_pieces iovs) [] n (send_load a4 addr) (spare_load a4 addr)

  spare_send : (caller a1 a2 a3 a4 : ℕ) → Spares f (sendv caller a1 a2 a3 a4)
  spare_send caller a1 a2 a3 a4 =
      spare_at_once_if f (nat_lt 8 a3 || nat_le (2 ^ 32) a4) Inval (λ os. read a1 16 (send_head caller a2 a3 a4) os) (spare_read f a1 16 (send_head caller a2 a3 a4) head) where
        head : (addr : List ℕ) → Spares f (send_head caller a2 a3 a4 addr)
        head addr =
            spare_if f (not (is_send_addr addr)) Inval (λ os. refuse_if (not (is_own_source caller addr)) Perm (λ os. read a2 (16 * a3) (send_iovs a3 a4 addr) os) os)
            (spare_if f (not (is_own_source caller addr)) Perm (λ os. read a2 (16 * a3) (send_iovs a3 a4 addr) os)
            (spare_read f a2 (16 * a3) (send_iovs a3 a4 addr) (λ list. spare_judged a4 addr (iovs_at list a3) (verdict_of (iovs_at list a3)))))

  -- ---- notify

  spare_swept : (more : ℕ → Rests) (done : Rests) → ((n : ℕ) → Spares f (more n)) → Spares f done → SparesAfter f (if_swept more done)
  spare_swept more done h g Done os = g os
  spare_swept more done h g (Bytes bs) os = g os
  spare_swept more done h g Fault os = g os
  spare_swept more done h g (Refused e) os = tt
  spare_swept more done h g (Accepted n) os = g os
  spare_swept more done h g (Swept n) os = h n os
  spare_swept more done h g NoMore os = g os
  spare_swept more done h g (Answer a) os = g os
  spare_swept more done h g (Flag b) os = g os
  spare_swept more done h g Gone os = g os

  spare_sweeps : (n after : ℕ) (done : Rests) → Spares f done → Spares f (sweep_rings n after done)
  spare_sweeps zero after done h os = h os
  spare_sweeps (suc n) after done h os =
      spare_ask f (Sweep after) (if_swept (λ serial os. sweep_rings n serial done os) done) refl
      (spare_swept (λ serial os. sweep_rings n serial done os) done (λ serial. spare_sweeps n serial done h) h) os

  spare_answered : (at : ℕ) (more : Rests) → Spares f more → SparesAfter f (if_answered at more)
  spare_answered at more h Done os = h os
  spare_answered at more h (Bytes bs) os = h os
  spare_answered at more h Fault os = h os
  spare_answered at more h (Refused e) os = tt
  spare_answered at more h (Accepted n) os = h os
  spare_answered at more h (Swept n) os = h os
  spare_answered at more h NoMore os = h os
  spare_answered at more h (Answer a) os = spare_put_all f (pieces (at + 8) 12) (answer_bytes a.flags 0 a.need a.most) (refusal efault) more tt h os
  spare_answered at more h (Flag b) os = h os
  spare_answered at more h Gone os = h os

  spare_entry : (at : ℕ) (entry : List ℕ) (more : Rests) → Spares f more → Spares f (answer_entry at entry more)
  spare_entry at entry more h =
      spare_if f (not ((u16_at entry 6 == 0) && (u16_at entry 10 == 0))) Inval (λ os. ask (Query (u16_at entry 4) (u32_at entry 0) (u32_at entry 12)) (if_answered at more) os)
      (spare_ask f (Query (u16_at entry 4) (u32_at entry 0) (u32_at entry 12)) (if_answered at more) refl (spare_answered at more h))

  spare_entries : (ats : List ℕ) → Spares f (answer_entries ats)
  spare_entries [] os = tt
  spare_entries (at ∷ ats) os =
      spare_read f at 20 (λ entry os. answer_entry at entry (λ os. answer_entries ats os) os)
      (λ entry. spare_entry at entry (λ os. answer_entries ats os) (spare_entries ats)) os

  spare_notify_entries : (a1 : ℕ) → Spares f (notify_entries a1)
  spare_notify_entries zero os = tt
  spare_notify_entries (suc a) os =
      spare_read f (suc a) 8 (notify_head (suc a))
      (λ head. spare_if f (not (u32_at head 4 == 0)) Inval (λ os. refuse_if (nat_lt most_entries (u32_at head 0)) Acces (λ os. answer_entries (entries_at (suc a) (u32_at head 0)) os) os)
      (spare_if f (nat_lt most_entries (u32_at head 0)) Acces (λ os. answer_entries (entries_at (suc a) (u32_at head 0)) os) (spare_entries (entries_at (suc a) (u32_at head 0))))) os

  spare_notify : (a1 a2 a3 a4 : ℕ) → Spares f (notify a1 a2 a3 a4)
  spare_notify a1 a2 a3 a4 =
      spare_at_once_if f (has_more a2 a3 a4) Inval (λ os. sweep_rings most_rings 0 (notify_entries a1) os) (spare_sweeps most_rings 0 (notify_entries a1) (spare_notify_entries a1))

  -- ---- recv

  spare_found : (x : Found) → MayCome f (say_found x)
  spare_found (FoundMessage size message) = tt
  spare_found FoundEmpty = tt
  spare_found FoundBad = tt
  spare_found FoundFault = tt

  spare_end_if : (test : Bool) (x : Found) (k : Rests) → Spares f k → Spares f (end_if test (say_found x) k)
  spare_end_if true x k h os = spare_found x
  spare_end_if false x k h os = h os

  spare_slots : (ring len at n : ℕ) (k : List ℕ → Rests) → ((bs : List ℕ) → Spares f (k bs)) → Spares f (take_slots say_found ring len at n k)
  spare_slots ring len at n k h = spare_fetch_all f (slot_pieces ring len at n) [] (Say fault) k tt h

  spare_recv : (page len : ℕ) → Spares f (recv page len)
  spare_recv page len =
      spare_fetch_all f (pieces (page * 4096) 4) [] (Say fault) (λ rx os. recv_tx say_found (page * 4096) len (u32_at rx 0) os) tt (λ rx. last (u32_at rx 0)) where
        body : (rx : ℕ) (head bs : List ℕ) → Spares f (recv_body say_found (page * 4096) len rx head bs)
        body rx head bs =
            spare_put_all f (pieces (page * 4096) 4) (u32_bytes (place_after len rx (up (u32_at head 0)))) (Say fault) (λ os. say_found (FoundMessage (u32_at head 0 - 16) (message_of head bs)))
            tt (λ os. tt)

        head : (rx tx : ℕ) (bs : List ℕ) → Spares f (recv_head say_found (page * 4096) len rx tx bs)
        head rx tx bs =
            spare_end_if (not (is_message_size len rx tx (u32_at bs 0))) FoundBad
            (λ os. take_slots say_found (page * 4096) len (place_after len rx 16) (u32_at bs 0 - 16) (recv_body say_found (page * 4096) len rx bs) os)
            (spare_slots (page * 4096) len (place_after len rx 16) (u32_at bs 0 - 16) (recv_body say_found (page * 4096) len rx bs) (body rx bs))

        words : (rx tx : ℕ) → Spares f (recv_words say_found (page * 4096) len rx tx)
        words rx tx =
            spare_end_if (not (is_place len rx && is_place len tx)) FoundBad
            (λ os. end_if (rx == tx) (say_found FoundEmpty) (λ os. take_slots say_found (page * 4096) len rx 16 (recv_head say_found (page * 4096) len rx tx) os) os)
            (spare_end_if (rx == tx) FoundEmpty (λ os. take_slots say_found (page * 4096) len rx 16 (recv_head say_found (page * 4096) len rx tx) os)
            (spare_slots (page * 4096) len rx 16 (recv_head say_found (page * 4096) len rx tx) (head rx tx)))

        last : (rx : ℕ) → Spares f (recv_tx say_found (page * 4096) len rx)
        last rx =
            spare_fetch_all f (pieces (page * 4096 + 4) 4) [] (Say fault) (λ tx os. recv_words say_found (page * 4096) len rx (u32_at tx 0) os) tt (λ tx. words rx (u32_at tx 0))

  -- ---- lines

  spare_flag : (more : Rests) → Spares f more → SparesAfter f (if_flag more)
  spare_flag more h Done os = h os
  spare_flag more h (Bytes bs) os = h os
  spare_flag more h Fault os = h os
  spare_flag more h (Refused e) os = h os
  spare_flag more h (Accepted n) os = h os
  spare_flag more h (Swept n) os = h os
  spare_flag more h NoMore os = h os
  spare_flag more h (Answer a) os = h os
  spare_flag more h (Flag true) os = tt
  spare_flag more h (Flag false) os = h os
  spare_flag more h Gone os = h os

  spare_await : (n : ℕ) → Spares f (await n)
  spare_await zero os = tt
  spare_await (suc n) os = spare_ask f Look (if_flag (λ os. await n os)) refl (spare_flag (λ os. await n os) (spare_await n)) os

  spare_op : (caller : ℕ) (c : Command) (a1 a2 a3 a4 : ℕ) → Spares f (op caller c a1 a2 a3 a4)
  spare_op caller RegisterRing a1 a2 a3 a4 = spare_register a1 a2 a3 a4
  spare_op caller UnregisterRing a1 a2 a3 a4 = spare_unregister a1 a2 a3 a4
  spare_op caller SendV a1 a2 a3 a4 = spare_send caller a1 a2 a3 a4
  spare_op caller Notify a1 a2 a3 a4 = spare_notify a1 a2 a3 a4
  spare_op caller Unknown a1 a2 a3 a4 = spare_at_once f OpNotSupp

  pub spare_program : (actor : Actor) (line : Line) (os : List Outcome) → IsTrue (line_may_end f line) → MayCome f (program actor line os)
  spare_program actor (Store at bytes) os may = spare_put_all f (pieces at (length bytes)) bytes (Say fault) (λ os. Say Stored) tt (λ os. tt) os
  spare_program actor (Load at n) os may = spare_fetch_all f (pieces at n) [] (Say fault) (λ bs os. Say (Hex bs)) tt (λ bs os. tt) os
  spare_program actor (Op c a1 a2 a3 a4) os may = spare_op (caller_of actor) (command_of c) a1 a2 a3 a4 os
  spare_program actor (Await turns) os may = spare_await turns os
  spare_program actor (Recv page len) os may = spare_recv page len os
  spare_program actor (Destroy d) os may = spare_ask f (DestroyNow d) say_done may (spare_say_done f) os
  spare_program actor (Reset d) os may = spare_ask f (ResetNow d) say_done refl (spare_say_done f) os
  spare_program actor (Create d) os may = spare_ask f (CreateNow d) say_done refl (spare_say_done f) os
