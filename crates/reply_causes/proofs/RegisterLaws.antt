-- register_ring, unregister_ring and unknown commands have their causes.
use Rattle.std.proofs.Common.{◌≡◌, ℕ, ◌+◌, ◌*◌, ◌==◌, nat_lt, nat_le, Bool, true, false, not, ◌&&◌, cond, List, [], length, drop, Option, Some, None, sym, ap, ◌∙◌, subst}
use Rattle.std.specs.Prelude.{unwrap_or, is_none, option_map, option_and_then}
use Rattle.std.proofs.lemmas.List.{drop-map}
use Rattle.std.proofs.Math.Seq.{drop-drop}
use Rattle.argo_base.specs.declared.errno.Errno.TheVariants.{NoEnt, Srch, Fault as efault, Exist, NoDev, Inval, NoSpc, OpNotSupp, ConnRefused}
use Rattle.argo_base.specs.declared.ring_key.RingKey.{RingKey}
use Rattle.argo_base.specs.Layout.{u16_at, u32_at, numbers_at}
use Rattle.argo_base.specs.Pieces.{pieces}
use Rattle.argo_model.specs.declared.scripts.Actor.{Actor}
use Rattle.argo_model.specs.declared.scripts.Actor.TheVariants.{Vcpu}
use Rattle.argo_model.specs.declared.action.Action.TheVariants.{Rest, Register, Unregister}
use Rattle.argo_model.specs.declared.action.Outcome.TheVariants.{Done}
use Rattle.argo_model.specs.declared.reply.Reply.{Reply}
use Rattle.argo_model.specs.Rules.State.{State, Domain, Live, Ring, domain_of, live_of, is_alive, is_on}
use Rattle.argo_model.specs.Rules.Act.{act}
use Rattle.argo_model.specs.Rules.Effects.{answered}
use Rattle.argo_model.specs.Rules.Limits.{most_rings}
use Rattle.argo_model.specs.Rules.Register.{register, register_allowed, register_anew, has_ring, own_ring, are_free_for, is_single, stands_so, unregister}
use Rattle.argo_model.specs.Programs.Asks.{ask, read, say_done}
use Rattle.argo_model.specs.Programs.Program.{Unknown, op, Command}
use Rattle.argo_model.specs.Programs.Register.{register_ring, register_head, register_pages, is_register_head, unregister_ring, unregister_head, has_more}
use Rattle.argo_model.specs.Laws.Transitions.{Transition}
use Rattle.argo_model.specs.Laws.SendCauses.{found, row, says}
use Rattle.reply_causes.specs.Plays.{PlaysTo}
use Rattle.reply_causes.specs.Tables.{Call, last_state, zero_reply, states_of, unless_lost}
use Rattle.reply_causes.specs.RegisterCauses.{Looked, cause_of_register, cause_of_unregister, register_looked, unregister_looked, partner_of, key_named}
use Rattle.reply_causes.specs.Causes.{RegistersHaveCauses, UnregistersHaveCauses, UnknownsHaveCauses, cause_of_op}
use Rattle.reply_causes.proofs.StepLaws.{Ends, ends, Tells, befores, Over, always}
use Rattle.reply_causes.proofs.TableLaws.{over-cause, over-same, refuses-over, at_once-over, read-over, act-over, Answers, Answered, at_life, tells_if, done-tells, done_closes}

-- what a registration that is allowed comes to
allowed-tells : (live : Live) (key : RingKey) (len : ℕ) (pages : List ℕ) (o : Option Ring) → Tells say_done (register_allowed live key len pages o).outcome zero_reply
allowed-tells live key len pages None = done-tells
allowed-tells live key len pages (Some r) = by (stands_so r len pages) where
  by : (b : Bool) → Tells say_done (cond b (answered Done) (register_anew live key r len pages)).outcome zero_reply
  by true = done-tells
  by false = done-tells

-- the rows of the act of a registration, by what is on and alive
abbrev registered : Call → Looked → Bool → Option Live → Reply
registered c l on life =
    row (is_single (partner_of l) && not (is_alive l.state (partner_of l))) Srch (
    row (not on) NoDev (
    row (is_single (partner_of l) && not (is_on l.state (partner_of l))) ConnRefused (
    row (unwrap_or (option_map (λ live. has_ring live (key_named l)) life) false && (c.a4 == 1)) Exist (
    row (not (unwrap_or (option_map (λ live. has_ring live (key_named l)) life) false) && unwrap_or (option_map (λ live. nat_le most_rings (length live.rings)) life) false) NoSpc (
    row (not (unwrap_or (option_map (λ live. are_free_for live (key_named l) (numbers_at (unwrap_or l.list []) c.a3)) life) false)) Inval zero_reply)))))

-- the state has the caller on or off, and alive
on_is : (s : State) (d : ℕ) (x : Domain) → domain_of s d ≡ Some x → is_on s d ≡ x.on
on_is s d x here = ap (λ o. unwrap_or (option_map (λ (x : Domain). x.on) o) false) here

live_is : (s : State) (d : ℕ) (x : Domain) (live : Live) → domain_of s d ≡ Some x → x.life ≡ Some live → live_of s d ≡ Some live
live_is s d x live here is = ap (λ o. option_and_then (λ (x : Domain). x.life) o) here ∙ is

register-answers : (c : Call) (generation : ℕ) (head list : Option (List ℕ)) (s : State)
    → Answers say_done (act (Vcpu c.caller generation) (Register (u32_at (unwrap_or head []) 0) (u16_at (unwrap_or head []) 4) (u32_at (unwrap_or head []) 8) (numbers_at (unwrap_or list []) c.a3) (c.a4 == 1)) s).outcome
    (registered c (record { head = head; list = list; state = s }) (is_on s c.caller) (live_of s c.caller))
register-answers c generation head list s =
    at_life s c.caller generation _ say_done _ (λ x live here is.
    let l : Looked = record { head = head; list = list; state = s } in
    let P : Reply → Type 0 = λ q. Tells say_done (register s c.caller x live (key_named l) (u32_at (unwrap_or head []) 8) (numbers_at (unwrap_or list []) c.a3) (c.a4 == 1)).outcome q in
    Answered (
    subst P (sym (ap (λ b. registered c l b (live_of s c.caller)) (on_is s c.caller x here) ∙ ap (registered c l x.on) (live_is s c.caller x live here is))) (
    tells_if _ Srch _ _ (tells_if _ NoDev _ _ (tells_if _ ConnRefused _ _ (tells_if _ Exist _ _ (tells_if _ NoSpc _ _ (tells_if _ Inval _ _ (
    allowed-tells live (key_named l) (u32_at (unwrap_or head []) 8) (numbers_at (unwrap_or list []) c.a3) (own_ring live (key_named l)))))))))))

-- states that are found later
later_states : (d : ℕ) (at n m : ℕ) (ts : List Transition) (f : Option (List ℕ) → Reply) (r : Reply)
    → Over (f (found d (pieces at n) (befores (drop m ts)))) (drop m ts) r → Over (f (found d (pieces at n) (drop m (befores ts)))) (drop m ts) r
later_states d at n m ts f r h = over-same _ _ (drop m ts) r (ap (λ states. f (found d (pieces at n) states)) (sym (drop-map (λ (t : Transition). t.before) m ts))) h

register-over : (c : Call) (generation : ℕ) (ts : List Transition) (r : Reply) → Ends (Vcpu c.caller generation) (λ os. register_ring c.a1 c.a2 c.a3 c.a4 os) ts r
    → Over (cause_of_register c (register_looked c (befores ts))) ts r
register-over c generation ts r h =
    at_once-over actor (nat_lt 1 c.a4) Inval _ (λ os. read c.a1 12 (register_head c.a2 c.a3 c.a4) os) ts r h (λ h.
    read-over c.caller generation c.a1 12 _ (register_head c.a2 c.a3 c.a4) ts r h (λ h.
    refuses-over actor (not (is_register_head c.a3 (unwrap_or head []))) Inval _ (λ os. read c.a2 (8 * c.a3) (register_pages c.a3 c.a4 (unwrap_or head [])) os) (drop n ts) r h (λ h.
    later_states c.caller c.a2 (8 * c.a3) n ts listed r (
    read-over c.caller generation c.a2 (8 * c.a3) _ (register_pages c.a3 c.a4 (unwrap_or head [])) (drop n ts) r h (acts (found c.caller (pieces c.a2 (8 * c.a3)) (befores (drop n ts)))))))) where
      actor : Actor
      actor = Vcpu c.caller generation

      n : ℕ
      n = length (pieces c.a1 12)

      m : ℕ
      m = length (pieces c.a2 (8 * c.a3))

      head : Option (List ℕ)
      head = found c.caller (pieces c.a1 12) (befores ts)

      act_rows : Option (List ℕ) → State → Reply
      act_rows list s = registered c (record { head = head; list = list; state = s }) (is_on s c.caller) (live_of s c.caller)

      listed : Option (List ℕ) → Reply
      listed list = row (is_none list) efault (act_rows list (last_state (befores ts)))

      acts : (list : Option (List ℕ)) → Ends actor (λ os. register_pages c.a3 c.a4 (unwrap_or head []) (unwrap_or list []) os) (drop m (drop n ts)) r
          → Over (act_rows list (last_state (befores ts))) (drop m (drop n ts)) r
      acts list h =
          let P : List Transition → Type 0 = λ xs. Ends actor (λ os. register_pages c.a3 c.a4 (unwrap_or head []) (unwrap_or list []) os) xs r in
          let Q : List Transition → Type 0 = λ xs. Over (act_rows list (last_state (befores ts))) xs r in
          let same = drop-drop m n ts in
          subst Q (sym same) (
          act-over actor (Register (u32_at (unwrap_or head []) 0) (u16_at (unwrap_or head []) 4) (u32_at (unwrap_or head []) 8) (numbers_at (unwrap_or list []) c.a3) (c.a4 == 1)) say_done
          (act_rows list) (n + m) ts r (λ o xs end. done_closes actor o xs r end) (register-answers c generation head list) (subst P same h))

pub registers_have_causes : RegistersHaveCauses
registers_have_causes d generation a1 a2 a3 a4 ts r h =
    let c : Call = record { caller = d; a1 = a1; a2 = a2; a3 = a3; a4 = a4 } in
    over-cause (cause_of_register c (register_looked c (befores ts))) ts r (
    register-over c generation ts r (ends (Vcpu d generation) (λ os. register_ring a1 a2 a3 a4 os) ts r h))

-- the rows of the act that ends a ring
abbrev unregistered : Call → Looked → Bool → Option Live → Reply
unregistered c l on life =
    row (not on) NoDev (
    row (not (unwrap_or (option_map (λ live. has_ring live (key_named l)) life) false)) NoEnt zero_reply)

unregister-answers : (c : Call) (generation : ℕ) (head : Option (List ℕ)) (s : State)
    → Answers say_done (act (Vcpu c.caller generation) (Unregister (u32_at (unwrap_or head []) 0) (u16_at (unwrap_or head []) 4)) s).outcome
    (unregistered c (record { head = head; list = None; state = s }) (is_on s c.caller) (live_of s c.caller))
unregister-answers c generation head s =
    at_life s c.caller generation _ say_done _ (λ x live here is.
    let l : Looked = record { head = head; list = None; state = s } in
    let P : Reply → Type 0 = λ q. Tells say_done (unregister s c.caller x live (key_named l)).outcome q in
    Answered (
    subst P (sym (ap (λ b. unregistered c l b (live_of s c.caller)) (on_is s c.caller x here) ∙ ap (unregistered c l x.on) (live_is s c.caller x live here is))) (
    tells_if _ NoDev _ _ (tells_if _ NoEnt _ _ done-tells))))

unregister-over : (c : Call) (generation : ℕ) (ts : List Transition) (r : Reply) → Ends (Vcpu c.caller generation) (λ os. unregister_ring c.a1 c.a2 c.a3 c.a4 os) ts r
    → Over (cause_of_unregister c (unregister_looked c (befores ts))) ts r
unregister-over c generation ts r h =
    at_once-over actor (has_more c.a2 c.a3 c.a4) Inval _ (λ os. read c.a1 8 unregister_head os) ts r h (λ h.
    read-over c.caller generation c.a1 8 _ unregister_head ts r h (λ h.
    refuses-over actor (not (u16_at (unwrap_or head []) 6 == 0)) Inval _ (λ os. ask (Unregister (u32_at (unwrap_or head []) 0) (u16_at (unwrap_or head []) 4)) say_done os) (drop n ts) r h (λ h.
    act-over actor (Unregister (u32_at (unwrap_or head []) 0) (u16_at (unwrap_or head []) 4)) say_done act_rows n ts r (λ o xs end. done_closes actor o xs r end) (unregister-answers c generation head) h))) where
      actor : Actor
      actor = Vcpu c.caller generation

      n : ℕ
      n = length (pieces c.a1 8)

      head : Option (List ℕ)
      head = found c.caller (pieces c.a1 8) (befores ts)

      act_rows : State → Reply
      act_rows s = unregistered c (record { head = head; list = None; state = s }) (is_on s c.caller) (live_of s c.caller)

pub unregisters_have_causes : UnregistersHaveCauses
unregisters_have_causes d generation a1 a2 a3 a4 ts r h =
    let c : Call = record { caller = d; a1 = a1; a2 = a2; a3 = a3; a4 = a4 } in
    over-cause (cause_of_unregister c (unregister_looked c (befores ts))) ts r (
    unregister-over c generation ts r (ends (Vcpu d generation) (λ os. unregister_ring a1 a2 a3 a4 os) ts r h))

pub unknown-cause : (d generation a1 a2 a3 a4 : ℕ) (ts : List Transition) (r : Reply)
    → PlaysTo (Vcpu d generation) (λ os. op d Unknown a1 a2 a3 a4 os) ts r → r ≡ unless_lost ts (says OpNotSupp)
unknown-cause d generation a1 a2 a3 a4 ts r h =
    over-cause (says OpNotSupp) ts r (always (Vcpu d generation) Rest (says OpNotSupp) ts r (ends (Vcpu d generation) (λ os. op d Unknown a1 a2 a3 a4 os) ts r h))

pub unknowns_have_causes : UnknownsHaveCauses
unknowns_have_causes c none d generation a1 a2 a3 a4 ts r h =
    let call : Call = record { caller = d; a1 = a1; a2 = a2; a3 = a3; a4 = a4 } in
    let P : Command → Type 0 = λ x. PlaysTo (Vcpu d generation) (λ os. op d x a1 a2 a3 a4 os) ts r in
    let Q : Command → Type 0 = λ x. r ≡ unless_lost ts (cause_of_op x call (states_of ts)) in
    subst Q (sym none) (unknown-cause d generation a1 a2 a3 a4 ts r (subst P none h))
