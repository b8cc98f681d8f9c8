-- Every send has its cause.
use Rattle.std.proofs.Common.{◌≡◌, ℕ, ◌==◌, ◌+◌, nat_lt, Bool, true, false, not, ◌&&◌, ◌||◌, cond, List, [], ◌∷◌, length, drop, Option, Some, None, Result, Ok, Err, IsTrue, refl, sym, ap, ◌∙◌, subst}
use Rattle.std.specs.Prelude.{option_map, unwrap_or, is_none, pos, negsuc, IsSomeAnd}
use Rattle.std.specs.List.{last_or}
use Rattle.std.proofs.lemmas.List.{drop-map}
use Rattle.argo_base.specs.declared.errno.Errno.{Errno}
use Rattle.argo_base.specs.declared.errno.Errno.TheVariants.{Srch, Again, NoDev, Inval, MsgSize, ConnRefused}
use Rattle.argo_base.specs.Layout.{u32_at}
use Rattle.argo_base.specs.Iovs.{Iov, is_bad_iov, judged, verdict_of}
use Rattle.argo_base.specs.Limits.{longest_body}
use Rattle.argo_base.specs.Notices.{noted, is_busy}
use Rattle.argo_base.specs.Slots.{fits, is_too_big}
use Rattle.argo_model.specs.declared.scripts.Actor.{Actor}
use Rattle.argo_model.specs.declared.scripts.Actor.TheVariants.{Vcpu}
use Rattle.argo_model.specs.declared.action.Action.{Action}
use Rattle.argo_model.specs.declared.action.Action.TheVariants.{Deliver}
use Rattle.argo_model.specs.declared.action.Load.{Load}
use Rattle.argo_model.specs.declared.action.Load.TheVariants.{Body, Faulted, Refused as RefusedLoad}
use Rattle.argo_model.specs.declared.action.Outcome.{Outcome}
use Rattle.argo_model.specs.declared.action.Outcome.TheVariants.{Done, Bytes, Fault as Missed, Refused, Accepted, Swept, NoMore, Answer, Flag, Gone}
use Rattle.argo_model.specs.declared.reply.Reply.{Reply}
use Rattle.argo_model.specs.declared.reply.Reply.TheVariants.{Stored, Hex, Number, Signal, NoSignal, Msg, Empty, Bad, Fault, Gone as gone}
use Rattle.argo_model.specs.Rules.State.{State, Domain, Live, Ring, domain_of, is_alive, is_on, change_domain, signal_all}
use Rattle.argo_model.specs.Rules.Effects.{Change, leaving, refuse_if, lifted, set_left, with_life}
use Rattle.argo_model.specs.Rules.RingBytes.{set_paged, free}
use Rattle.argo_model.specs.Rules.Matches.{RingAt, match_at, paged_at}
use Rattle.argo_model.specs.Rules.Deliver.{Offer, accepted, deliver, with_notice, message_of, offer_to_domain}
use Rattle.argo_model.specs.Rules.Outcomes.{is_gone}
use Rattle.argo_model.specs.Rules.Act.{act}
use Rattle.argo_model.specs.Runs.Final.{accepted_size, is_accepted}
use Rattle.argo_model.specs.Programs.Asks.{unless_gone}
use Rattle.argo_model.specs.Programs.Program.{caller_of}
use Rattle.argo_model.specs.Programs.Send.{say_accepted, send_load}
use Rattle.argo_model.specs.Laws.Transitions.{Transition}
use Rattle.argo_model.specs.Laws.RingNames.{name_of, has_name}
use Rattle.argo_model.specs.Laws.Taken.{brought_by, offered_to}
use Rattle.argo_model.specs.Laws.SendCauses.{Send, Looked, looked_by, address_of, receiver_of, met_in, ring_of, iovs_in, message_in, says, row, cause_at, cause_judged, cause_at_match, cause_of, waits_on, WaitsForSize, IsNoted, BringsMessage, IfCount, SendHasCause}
use Rattle.reply_causes.proofs.StepLaws.{Ends, Performs, Asked, By, asked, said, told, vanished, any_gone, befores, last-drop}
use Rattle.reply_causes.proofs.DeliverLaws.{Settled, settled_refused, settled_if, settled_faulted, settled_body, offered, caused, change_at, offer_at, Delivery, Vanishes, Delivers, delivery, refusal_counts, IsOther}
use Rattle.reply_causes.proofs.MetLaws.{met, met-after, noted-size}
use Rattle.reply_causes.proofs.TestLaws.{same-eqb, both_hold}

-- a line that vanishes replies so
pub send_vanishes : (x : Send) (ts : List Transition) (r : Reply) → any_gone ts ≡ true → gone ≡ r → SendHasCause x ts r
send_vanishes x ts r g same =
    let P : Reply → Type 0 = λ q. IfCount q (λ n. IsSomeAnd (last_or None ts) (λ t. BringsMessage x (looked_by x ts) t n)) in
    record {
      reply = sym same ∙ sym (ap (λ b. cond b gone (cause_of x (looked_by x ts))) g);
      noted = λ h. absurd (let no : ⊥ = cc in no);
      brought = subst P same tt;
    }

-- so does one that is refused, but for -11
pub send_refused : (x : Send) (ts : List Transition) (r : Reply) (e : Errno) → any_gone ts ≡ false → IsOther e → cause_of x (looked_by x ts) ≡ says e → says e ≡ r → SendHasCause x ts r
send_refused x ts r e g other cause same =
    let P : Reply → Type 0 = λ q. IfCount q (λ n. IsSomeAnd (last_or None ts) (λ t. BringsMessage x (looked_by x ts) t n)) in
    record {
      reply = sym same ∙ sym cause ∙ sym (ap (λ b. cond b gone (cause_of x (looked_by x ts))) g);
      noted = λ h. absurd (other (same ∙ h));
      brought = subst P same (refusal_counts e (λ n. IsSomeAnd (last_or None ts) (λ t. BringsMessage x (looked_by x ts) t n)));
    }

if_count-map : (q : Reply) (P Q : ℕ → Type 0) → ((n : ℕ) → P n → Q n) → IfCount q P → IfCount q Q
if_count-map (Number (pos n)) P Q f h = f n h
if_count-map (Number (negsuc n)) P Q f h = tt
if_count-map Stored P Q f h = tt
if_count-map (Hex bs) P Q f h = tt
if_count-map Signal P Q f h = tt
if_count-map NoSignal P Q f h = tt
if_count-map (Msg src port kind size head) P Q f h = tt
if_count-map Empty P Q f h = tt
if_count-map Bad P Q f h = tt
if_count-map Fault P Q f h = tt
if_count-map gone P Q f h = tt

-- the load that a send delivers, by what it looked at
pub data IsLoad (x : Send) (l : Looked) (load : Load) : Type 0 where
  Judged : (e : Errno) → load ≡ RefusedLoad e → verdict_of (iovs_in x l.list) ≡ Err e → IsLoad x l load
  Missing : (n : ℕ) → load ≡ Faulted n → verdict_of (iovs_in x l.list) ≡ Ok n → l.body ≡ None → IsLoad x l load
  Gathered : (n : ℕ) (bs : List ℕ) → load ≡ Body bs → verdict_of (iovs_in x l.list) ≡ Ok n → l.body ≡ Some bs → length bs ≡ n → IsLoad x l load

-- the verdict is one of two refusals
judged_other : (n : ℕ) (vs : List Iov) (e : Errno) → judged n vs ≡ Err e → IsOther e
judged_other n [] e h = absurd (let no : ⊥ = cc in no)
judged_other n (v ∷ vs) e h = by (is_bad_iov v) (nat_lt longest_body (n + v.len)) h (judged_other (n + v.len) vs e) where
  by : (bad long : Bool) → cond bad (Err Inval) (cond long (Err MsgSize) (judged (n + v.len) vs)) ≡ Err e → (judged (n + v.len) vs ≡ Err e → IsOther e) → IsOther e
  by true long h rest = let same : Inval ≡ e = cc in subst IsOther same (λ no. cc)
  by false true h rest = let same : MsgSize ≡ e = cc in subst IsOther same (λ no. cc)
  by false false h rest = rest h

-- the caller is noted on the ring that it met
note_stands : (x : Send) (l : Looked) (s : State) (m : RingAt) (n : ℕ) → l.state ≡ s → match_at s (receiver_of l) (u32_at (address_of l) 8) x.caller ≡ Some m
    → verdict_of (iovs_in x l.list) ≡ Ok n
    → IsNoted x l (change_domain s (receiver_of l) (with_life (set_paged m.live m.key (with_notice x.caller n (paged_at m)))))
note_stands x l s m n at here verdict =
    let to = receiver_of l in
    let port = u32_at (address_of l) 8 in
    let w : Ring = record m.ring { notices = noted m.ring.notices x.caller n } in
    let live = set_paged m.live m.key (with_notice x.caller n (paged_at m)) in
    let after = change_domain s to (with_life live) in
    let now : RingAt = record { owner = to; domain = with_life live m.domain; live = live; key = m.key; ring = w } in
    let found : ring_of x l ≡ Some m = ap (λ s. match_at s to port x.caller) at ∙ here in
    let again : met_in x l after ≡ Some now = met-after s to port x.caller m w live here refl in
    let owner : (to == m.owner) ≡ true = same-eqb to m.owner (sym (met s to port x.caller m here).owner) in
    let named : has_name (name_of m) now ≡ true =
    both_hold ((to == m.owner) && (m.domain.generation == m.domain.generation)) _
    (both_hold (to == m.owner) _ owner (same-eqb m.domain.generation m.domain.generation refl)) (same-eqb m.ring.serial m.ring.serial refl) in
    let Met : Option RingAt → Type 0 = λ o. IsSomeAnd o (λ m. WaitsForSize x l after m (verdict_of (iovs_in x l.list))) in
    let Judged : Result ℕ Errno → Type 0 = λ v. WaitsForSize x l after m v in
    let Again : Option RingAt → Type 0 = λ o. IsSomeAnd o (λ now. IsTrue (waits_on (name_of m) x.caller n now)) in
    subst Met (sym found) (subst Judged (sym verdict) (subst Again (sym again) (
    both_hold (has_name (name_of m) now) _ named (noted-size m.ring.notices x.caller n))))

-- the step brought the message, where it was accepted
message_comes : (x : Send) (l : Looked) (t : Transition) (generation n : ℕ) (bs : List ℕ) (m : RingAt)
    → t.actor ≡ Vcpu x.caller generation
    → t.step.action ≡ Deliver (u32_at (address_of l) 0) (receiver_of l) (u32_at (address_of l) 8) x.a4 (Body bs)
    → l.state ≡ t.before → match_at t.before (receiver_of l) (u32_at (address_of l) 8) x.caller ≡ Some m → l.body ≡ Some bs → length bs ≡ n
    → t.step.outcome ≡ Accepted n → BringsMessage x l t n
message_comes x l t generation n bs m actor action at here body size took =
    let to = receiver_of l in
    let port = u32_at (address_of l) 8 in
    let found : ring_of x l ≡ Some m = ap (λ s. match_at s to port x.caller) at ∙ here in
    let named : has_name (name_of m) m ≡ true =
    both_hold ((m.owner == m.owner) && (m.domain.generation == m.domain.generation)) _
    (both_hold (m.owner == m.owner) _ (same-eqb m.owner m.owner refl) (same-eqb m.domain.generation m.domain.generation refl)) (same-eqb m.ring.serial m.ring.serial refl) in
    let P : Option RingAt → Type 0 = λ o. IsSomeAnd o (λ m. brought_by (name_of m) t ≡ Some (message_in x l)) in
    record {
      brought = subst P (sym found) (
          ap (λ o. cond (is_accepted (accepted_size o)) (offered_to (name_of m) t (caller_of t.actor) t.step.action) None) took
          ∙ ap (λ a. offered_to (name_of m) t (caller_of a) t.step.action) actor
          ∙ ap (λ a. offered_to (name_of m) t x.caller a) action
          ∙ ap (λ o. cond (unwrap_or (option_map (has_name (name_of m)) o) false) (Some (record { src = x.caller; port = u32_at (address_of l) 0; kind = x.a4; body = bs })) None) here
          ∙ ap (λ b. cond b (Some (record { src = x.caller; port = u32_at (address_of l) 0; kind = x.a4; body = bs })) None) named
          ∙ ap (λ o. Some (record { src = x.caller; port = u32_at (address_of l) 0; kind = x.a4; body = unwrap_or o [] })) (sym body));
      size = ap (λ o. length (unwrap_or o [])) body ∙ size;
    }

-- what an offer at the ring met comes to
settled_match : (x : Send) (l : Looked) (t : Transition) (generation : ℕ) (load : Load) → IsLoad x l load
    → t.actor ≡ Vcpu x.caller generation
    → t.step.action ≡ Deliver (u32_at (address_of l) 0) (receiver_of l) (u32_at (address_of l) 8) x.a4 load
    → l.state ≡ t.before
    → Settled (λ c. (IsNoted x l (signal_all (set_left t.before (receiver_of l) c.left) c.signals))) (λ k. t.step.outcome ≡ Accepted k → BringsMessage x l t k)
    (change_at (receiver_of l) (record { sender = x.caller; port = u32_at (address_of l) 0; kind = x.a4; load = load }) (match_at t.before (receiver_of l) (u32_at (address_of l) 8) x.caller))
    (cause_at_match x l (match_at t.before (receiver_of l) (u32_at (address_of l) 8) x.caller))
settled_match x l t generation load is actor action at = by (match_at t.before to to_port x.caller) refl is where
  to : ℕ
  to = receiver_of l

  to_port : ℕ
  to_port = u32_at (address_of l) 8

  N : Change Live → Type 0
  N c = (IsNoted x l (signal_all (set_left t.before to c.left) c.signals))

  B : ℕ → Type 0
  B k = t.step.outcome ≡ Accepted k → BringsMessage x l t k

  offer_of : Load → Offer
  offer_of load = record { sender = x.caller; port = u32_at (address_of l) 0; kind = x.a4; load = load }

  -- at a ring that is met, with the load and the verdict as they are
  at_ring : (m : RingAt) (load is : Load) (v : Result ℕ Errno) → load ≡ is → verdict_of (iovs_in x l.list) ≡ v
      → Settled N B (change_at to (offer_of is) (Some m)) (cause_judged x l m v) → Settled N B (change_at to (offer_of load) (Some m)) (cause_at_match x l (Some m))
  at_ring m load is v same verdict h =
      let P : Load → Type 0 = λ load. Settled N B (change_at to (offer_of load) (Some m)) (cause_at_match x l (Some m)) in
      let Q : Result ℕ Errno → Type 0 = λ v. Settled N B (change_at to (offer_of is) (Some m)) (cause_judged x l m v) in
      subst P (sym same) (subst Q (sym verdict) h)

  -- and the body too
  at_body : (m : RingAt) (load : Load) (n : ℕ) (absent : Bool) → is_none l.body ≡ absent
      → Settled N B (change_at to (offer_of load) (Some m))
      (caused (is_too_big m.ring.len n) (fits (free (paged_at m)) n) (is_busy m.ring.notices x.caller) absent n)
      → Settled N B (change_at to (offer_of load) (Some m)) (cause_at x l n m)
  at_body m load n absent same h =
      let P : Bool → Type 0 = λ b. Settled N B (change_at to (offer_of load) (Some m))
      (caused (is_too_big m.ring.len n) (fits (free (paged_at m)) n) (is_busy m.ring.notices x.caller) b n) in
      subst P (sym same) h

  noting : (m : RingAt) → match_at t.before to to_port x.caller ≡ Some m → (n : ℕ) → verdict_of (iovs_in x l.list) ≡ Ok n
      → N (lifted (set_paged m.live m.key) (leaving (Refused Again) (with_notice x.caller n (paged_at m))))
  noting m here n verdict = note_stands x l t.before m n at here verdict

  by : (m : Option RingAt) → match_at t.before to to_port x.caller ≡ m → IsLoad x l load → Settled N B (change_at to (offer_of load) m) (cause_at_match x l m)
  by None here is = settled_refused N B ConnRefused (λ h. cc)
  by (Some m) here (Judged e same verdict) =
      at_ring m load (RefusedLoad e) (Err e) same verdict (settled_refused N B e (judged_other 0 (iovs_in x l.list) e verdict))
  by (Some m) here (Missing n same verdict body) =
      at_ring m load (Faulted n) (Ok n) same verdict (
      at_body m (Faulted n) n true (ap is_none body) (
      settled_faulted N B (set_paged m.live m.key) (with_notice x.caller n (paged_at m))
      (is_too_big m.ring.len n) (fits (free (paged_at m)) n) (is_busy m.ring.notices x.caller) n (noting m here n verdict)))
  by (Some m) here (Gathered n bs same verdict body size) =
      at_ring m load (Body bs) (Ok n) same verdict (
      at_body m (Body bs) n false (ap is_none body) (
      let P : ℕ → Type 0 = λ k. Settled N B (lifted (set_paged m.live m.key) (
      offered (is_too_big m.ring.len k) (fits (free (paged_at m)) k) (is_busy m.ring.notices x.caller) (accepted (paged_at m) to (message_of (offer_of (Body bs)) bs))
      (with_notice x.caller k (paged_at m)))) (caused (is_too_big m.ring.len n) (fits (free (paged_at m)) n) (is_busy m.ring.notices x.caller) false n) in
      subst P (sym size) (
      settled_body N B (set_paged m.live m.key) (with_notice x.caller n (paged_at m)) (paged_at m) to (message_of (offer_of (Body bs)) bs)
      (is_too_big m.ring.len n) (fits (free (paged_at m)) n) (is_busy m.ring.notices x.caller) n (noting m here n verdict) size
      (message_comes x l t generation n bs m actor (action ∙ ap (λ load. Deliver (u32_at (address_of l) 0) to to_port x.a4 load) same) at here body size))))

-- no step follows a delivery
delivered_last : (actor : Actor) (o : Outcome) (ts : List Transition) (r : Reply) → Ends actor (λ os. unless_gone o say_accepted os) ts r → ts ≡ []
delivered_last actor Done ts r h = (said actor (Number (pos 0)) ts r h).0
delivered_last actor (Bytes bs) ts r h = (said actor (Number (pos 0)) ts r h).0
delivered_last actor Missed ts r h = (said actor (Number (pos 0)) ts r h).0
delivered_last actor (Refused e) ts r h = (said actor (says e) ts r h).0
delivered_last actor (Accepted n) ts r h = (said actor (Number (pos n)) ts r h).0
delivered_last actor (Swept serial) ts r h = (said actor (Number (pos 0)) ts r h).0
delivered_last actor NoMore ts r h = (said actor (Number (pos 0)) ts r h).0
delivered_last actor (Answer a) ts r h = (said actor (Number (pos 0)) ts r h).0
delivered_last actor (Flag b) ts r h = (said actor (Number (pos 0)) ts r h).0
delivered_last actor Gone ts r h = (said actor gone ts r h).0

-- a send ends with its delivery: what it then replies has its cause, if all that was read before lets it come so far
pub send_load-ends : (x : Send) (generation : ℕ) (load : Load) (ts : List Transition) (j : ℕ) (r : Reply) → IsLoad x (looked_by x ts) load
    → any_gone ts ≡ any_gone (drop j ts)
    → cause_of x (looked_by x ts) ≡ row (not (is_alive (looked_by x ts).state (receiver_of (looked_by x ts)))) Srch (
    row (not (is_on (looked_by x ts).state x.caller)) NoDev (cause_at_match x (looked_by x ts) (ring_of x (looked_by x ts))))
    → Ends (Vcpu x.caller generation) (send_load x.a4 (address_of (looked_by x ts)) load) (drop j ts) r → SendHasCause x ts r
send_load-ends x generation load ts j r is g cause h = first (asked actor action say_accepted (drop j ts) r h) where
  l : Looked
  l = looked_by x ts

  to : ℕ
  to = receiver_of l

  to_port : ℕ
  to_port = u32_at (address_of l) 8

  actor : Actor
  actor = Vcpu x.caller generation

  action : Action
  action = Deliver (u32_at (address_of l) 0) to to_port x.a4 load

  o : Offer
  o = record { sender = x.caller; port = u32_at (address_of l) 0; kind = x.a4; load = load }

  vanishes : (t : Transition) (later : List Transition) → drop j ts ≡ t ∷ later → Ends actor (λ os. unless_gone t.step.outcome say_accepted os) later r
      → t.step.outcome ≡ Gone → SendHasCause x ts r
  vanishes t later split end none =
      send_vanishes x ts r (g ∙ ap any_gone split ∙ ap (λ o. is_gone o || any_gone later) none) (vanished actor t.step.outcome say_accepted later r none end).1

  delivers : (t : Transition) (d : Domain) → drop j ts ≡ t ∷ [] → Performs actor action t → Ends actor (λ os. unless_gone t.step.outcome say_accepted os) [] r
      → domain_of t.before x.caller ≡ Some d → act actor action t.before ≡ deliver t.before d to to_port o → SendHasCause x ts r
  delivers t d split does end here effect =
      let match = match_at t.before to to_port x.caller in
      let c : Change Live = refuse_if (not (is_alive t.before to)) Srch (refuse_if (not d.on) NoDev (offer_to_domain to to_port o (domain_of t.before to))) in
      let q = row (not (is_alive t.before to)) Srch (row (not d.on) NoDev (cause_at_match x l match)) in
      let N : Change Live → Type 0 = λ c. (IsNoted x l (signal_all (set_left t.before to c.left) c.signals)) in
      let B : ℕ → Type 0 = λ k. t.step.outcome ≡ Accepted k → BringsMessage x l t k in
      let C : Change Live → Type 0 = λ c. Settled N B c (cause_at_match x l match) in
      let last : last_or None ts ≡ Some t = last-drop None j ts t split in
      let at : l.state ≡ t.before = ap (λ o. unwrap_or o []) (last-drop None j (befores ts) t.before (drop-map (λ (d : Transition). d.before) j ts ∙ ap befores split)) in
      let settled : Settled N B c q =
      settled_if N B (not (is_alive t.before to)) Srch _ _ (λ h. cc) (
      settled_if N B (not d.on) NoDev _ _ (λ h. cc) (
      subst C (sym (offer_at to to_port o (domain_of t.before to))) (settled_match x l t generation load is does.by_actor does.action at))) in
      let came : t.step.outcome ≡ c.outcome = does.outcome ∙ ap (λ e. e.outcome) effect in
      let E : Outcome → Type 0 = λ o. Ends actor (λ os. unless_gone o say_accepted os) [] r in
      let same : q ≡ r = (told actor say_accepted c.outcome q [] r settled.tells (subst E came end)).1 in
      let stays : any_gone ts ≡ false = g ∙ ap any_gone split ∙ ap (λ o. is_gone o || false) came ∙ ap (λ b. b || false) settled.tells.stays in
      let left : t.after ≡ signal_all (set_left t.before to c.left) c.signals = does.after ∙ ap (λ e. e.state) effect in
      let Noted : State → Type 0 = λ s. IsNoted x l s in
      let OnLast : Option Transition → Type 0 = λ o. IsSomeAnd o (λ t. IsNoted x l t.after) in
      let Brings : ℕ → Option Transition → Type 0 = λ n o. IsSomeAnd o (λ t. BringsMessage x l t n) in
      let Counted : Reply → Type 0 = λ r. IfCount r (λ n. Brings n (last_or None ts)) in
      record {
        reply =
            sym same
            ∙ sym (ap (λ b. row (not (is_alive t.before to)) Srch (row (not b) NoDev (cause_at_match x l match))) (ap (λ o. unwrap_or (option_map (λ (x : Domain). x.on) o) false) here))
            ∙ sym (ap (λ s. row (not (is_alive s to)) Srch (row (not (is_on s x.caller)) NoDev (cause_at_match x l (match_at s to to_port x.caller)))) at)
            ∙ sym cause ∙ sym (ap (λ b. cond b gone (cause_of x l)) stays);
        noted = λ h. subst OnLast (sym last) (subst Noted (sym left) (settled.noted (same ∙ h)));
        brought = subst Counted same (if_count-map q (λ k. (c.outcome ≡ Accepted k) × B k) (λ n. Brings n (last_or None ts))
            (λ n h. let P : Option Transition → Type 0 = Brings n in subst P (sym last) (h.1 (came ∙ h.0))) settled.brought);
      }

  first : Asked actor action say_accepted (drop j ts) r → SendHasCause x ts r
  first (By t later split does end) = by (delivery t.before x.caller generation (u32_at (address_of l) 0) to to_port x.a4 load) where
    by : Delivery t.before x.caller to to_port o (act actor action t.before) → SendHasCause x ts r
    by (Vanishes none) = vanishes t later split end (does.outcome ∙ none)
    by (Delivers d here effect) =
        let alone : later ≡ [] = delivered_last actor t.step.outcome later r end in
        let P : List Transition → Type 0 = λ xs. Ends actor (λ os. unless_gone t.step.outcome say_accepted os) xs r in
        delivers t d (split ∙ ap (λ xs. t ∷ xs) alone) does (subst P alone end) here effect
