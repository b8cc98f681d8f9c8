-- What a send reads before its delivery.
use Rattle.std.proofs.Common.{◌≡◌, ℕ, ◌+◌, ◌*◌, ◌^◌, nat_lt, nat_le, Bool, true, false, not, ◌||◌, List, [], length, drop, Option, Some, None, Result, Ok, Err, refl, sym, ap, ◌∙◌, subst}
use Rattle.std.specs.Prelude.{unwrap_or, is_none}
use Rattle.std.proofs.lemmas.List.{drop-map}
use Rattle.std.proofs.Math.Seq.{drop-drop}
use Rattle.argo_base.specs.declared.errno.Errno.{Errno}
use Rattle.argo_base.specs.declared.errno.Errno.TheVariants.{Perm, Srch, Again, NoDev, Inval, Fault as efault}
use Rattle.argo_base.specs.Iovs.{verdict_of, gathered_pieces}
use Rattle.argo_base.specs.Pieces.{pieces}
use Rattle.argo_model.specs.declared.scripts.Actor.{Actor}
use Rattle.argo_model.specs.declared.scripts.Actor.TheVariants.{Vcpu}
use Rattle.argo_model.specs.declared.action.Action.TheVariants.{Rest}
use Rattle.argo_model.specs.declared.action.Load.{Load}
use Rattle.argo_model.specs.declared.action.Load.TheVariants.{Body, Faulted, Refused as RefusedLoad}
use Rattle.argo_model.specs.declared.reply.Reply.{Reply}
use Rattle.argo_model.specs.Rules.State.{is_alive, is_on}
use Rattle.argo_model.specs.Programs.Asks.{refusal, refuse_if, refuse_at_once_if, read}
use Rattle.argo_model.specs.Programs.Send.{sendv, send_head, send_iovs, send_judged, send_load, is_send_addr, is_own_source}
use Rattle.argo_model.specs.Laws.Transitions.{Transition}
use Rattle.argo_model.specs.Laws.SendCauses.{Send, Looked, looked_by, address_of, address_steps, list_steps, receiver_of, ring_of, iovs_in, found, says, row, cause_at_match, cause_of, SendHasCause}
use Rattle.reply_causes.specs.Sends.{SendsHaveCauses}
use Rattle.reply_causes.proofs.StepLaws.{Ends, ends, said, any_gone, befores, Over, Lost as Vanished, Replied, always}
use Rattle.reply_causes.proofs.FetchLaws.{Fetched, Lost, Missed, Found, fetch_all-ends, Gathered as Gather, Broken, Cut, Whole, gather-ends}
use Rattle.reply_causes.proofs.SizeLaws.{sized-gathered}
use Rattle.reply_causes.proofs.SendLaws.{IsLoad, Judged, Missing, Gathered, send_vanishes, send_refused, send_load-ends}

-- the causes that are left when the list of iovs was found; and those before it
abbrev after_list : Send → Looked → Reply
after_list x l =
    row (not (is_alive l.state (receiver_of l))) Srch (
    row (not (is_on l.state x.caller)) NoDev (
    cause_at_match x l (ring_of x l)))

abbrev after_source : Send → Looked → Reply
after_source x l = row (is_none l.list) efault (after_list x l)

abbrev after_pads : Send → Looked → Reply
after_pads x l = row (not (is_own_source x.caller (address_of l))) Perm (after_source x l)

abbrev after_address : Send → Looked → Reply
after_address x l = row (not (is_send_addr (address_of l))) Inval (after_pads x l)

abbrev after_counts : Send → Looked → Reply
after_counts x l = row (is_none l.address) efault (after_address x l)

-- a test that fails leaves the rows that follow it, and one that holds is the cause
passed : (b : Bool) (e : Errno) (q : Reply) → b ≡ false → row b e q ≡ q
passed b e q h = ap (λ b. row b e q) h

holds : (b : Bool) (e : Errno) (q : Reply) → b ≡ true → row b e q ≡ says e
holds b e q h = ap (λ b. row b e q) h

-- the iovs were judged
judged-ends : (x : Send) (generation : ℕ) (ts : List Transition) (r : Reply) → any_gone ts ≡ any_gone (drop (list_steps x) ts)
    → cause_of x (looked_by x ts) ≡ after_list x (looked_by x ts)
    → Ends (Vcpu x.caller generation)
    (λ os. send_judged x.a4 (address_of (looked_by x ts)) (iovs_in x (looked_by x ts).list) (verdict_of (iovs_in x (looked_by x ts).list)) os) (drop (list_steps x) ts) r
    → SendHasCause x ts r
judged-ends x generation ts r g cause h = by (verdict_of (iovs_in x l.list)) refl h where
  l : Looked
  l = looked_by x ts

  n : ℕ
  n = list_steps x

  actor : Actor
  actor = Vcpu x.caller generation

  body_is : (o : Option (List ℕ)) → found x.caller (gathered_pieces (iovs_in x l.list)) (befores (drop n ts)) ≡ o → l.body ≡ o
  body_is o h = ap (λ states. found x.caller (gathered_pieces (iovs_in x l.list)) states) (drop-map (λ (d : Transition). d.before) n ts) ∙ h

  load : (load : Load) (j : ℕ) → IsLoad x l load → any_gone (drop n ts) ≡ any_gone (drop j (drop n ts)) → Ends actor (send_load x.a4 (address_of l) load) (drop j (drop n ts)) r → SendHasCause x ts r
  load ld j is same h =
      let P : List Transition → Type 0 = λ xs. Ends actor (send_load x.a4 (address_of l) ld) xs r in
      send_load-ends x generation ld ts (n + j) r is (g ∙ same ∙ ap any_gone (drop-drop j n ts)) cause (subst P (drop-drop j n ts) h)

  gathers : (size : ℕ) → verdict_of (iovs_in x l.list) ≡ Ok size → Gather x.caller generation (gathered_pieces (iovs_in x l.list)) [] size (send_load x.a4 (address_of l)) (drop n ts) r → SendHasCause x ts r
  gathers size verdict (Broken some same) = send_vanishes x ts r (g ∙ some) same
  gathers size verdict (Cut j none same later) = load (Faulted size) j (Missing size refl verdict (body_is None none)) same later
  gathers size verdict (Whole j bs all same later) =
      let sized = sized-gathered (iovs_in x l.list) size verdict in
      load (Body bs) j (Gathered size bs refl verdict (body_is (Some bs) all) (sized.size x.caller (befores (drop n ts)) bs all)) same later

  by : (v : Result ℕ Errno) → verdict_of (iovs_in x l.list) ≡ v → Ends actor (λ os. send_judged x.a4 (address_of l) (iovs_in x l.list) v os) (drop n ts) r → SendHasCause x ts r
  by (Err e) verdict h = load (RefusedLoad e) 0 (Judged e refl verdict) refl h
  by (Ok size) verdict h = gathers size verdict (gather-ends x.caller generation (gathered_pieces (iovs_in x l.list)) [] size (send_load x.a4 (address_of l)) (drop n ts) r h)

-- the list of iovs was read
listed-ends : (x : Send) (generation : ℕ) (ts : List Transition) (r : Reply) → any_gone ts ≡ any_gone (drop (address_steps x) ts)
    → cause_of x (looked_by x ts) ≡ after_source x (looked_by x ts)
    → Ends (Vcpu x.caller generation) (λ os. read x.a2 (16 * x.a3) (send_iovs x.a3 x.a4 (address_of (looked_by x ts))) os) (drop (address_steps x) ts) r
    → SendHasCause x ts r
listed-ends x generation ts r g cause h =
    by (fetch_all-ends x.caller generation (pieces x.a2 (16 * x.a3)) [] (says efault) (send_iovs x.a3 x.a4 (address_of l)) (drop n ts) r h) where
      l : Looked
      l = looked_by x ts

      n : ℕ
      n = address_steps x

      list_is : (o : Option (List ℕ)) → found x.caller (pieces x.a2 (16 * x.a3)) (befores (drop n ts)) ≡ o → l.list ≡ o
      list_is o h = ap (λ states. found x.caller (pieces x.a2 (16 * x.a3)) states) (drop-map (λ (d : Transition). d.before) n ts) ∙ h

      by : Fetched x.caller generation (pieces x.a2 (16 * x.a3)) [] (says efault) (send_iovs x.a3 x.a4 (address_of l)) (drop n ts) r → SendHasCause x ts r
      by (Lost some same) = send_vanishes x ts r (g ∙ some) same
      by (Missed none absent same) =
          send_refused x ts r efault (g ∙ none) (λ h. cc) (cause ∙ holds (is_none l.list) efault (after_list x l) (ap is_none (list_is None absent))) same
      by (Found bs all same later) =
          let is : l.list ≡ Some bs = list_is (Some bs) all in
          let P : List ℕ → Type 0 = λ list. Ends (Vcpu x.caller generation) (λ os. send_iovs x.a3 x.a4 (address_of l) list os) (drop (length (pieces x.a2 (16 * x.a3))) (drop n ts)) r in
          let Q : List Transition → Type 0 = λ xs. Ends (Vcpu x.caller generation) (λ os. send_iovs x.a3 x.a4 (address_of l) (unwrap_or l.list []) os) xs r in
          let more = drop-drop (length (pieces x.a2 (16 * x.a3))) n ts in
          judged-ends x generation ts r (g ∙ same ∙ ap any_gone more) (cause ∙ passed (is_none l.list) efault (after_list x l) (ap is_none is))
          (subst Q more (subst P (sym (ap (λ o. unwrap_or o []) is)) later))

-- the tests of the addresses
addressed-ends : (x : Send) (generation : ℕ) (ts : List Transition) (r : Reply) → any_gone ts ≡ any_gone (drop (address_steps x) ts)
    → cause_of x (looked_by x ts) ≡ after_address x (looked_by x ts)
    → Ends (Vcpu x.caller generation) (λ os. send_head x.caller x.a2 x.a3 x.a4 (address_of (looked_by x ts)) os) (drop (address_steps x) ts) r
    → SendHasCause x ts r
addressed-ends x generation ts r g cause h = pads (not (is_send_addr (address_of l))) refl h where
  l : Looked
  l = looked_by x ts

  n : ℕ
  n = address_steps x

  actor : Actor
  actor = Vcpu x.caller generation

  refused : (e : Errno) → cause_of x l ≡ says e → (says e ≡ says Again → ⊥) → Ends actor (λ os. refusal e) (drop n ts) r → SendHasCause x ts r
  refused e same other h = let end = said actor (says e) (drop n ts) r h in send_refused x ts r e (g ∙ ap any_gone end.0) other same end.1

  source : (b : Bool) → not (is_own_source x.caller (address_of l)) ≡ b → cause_of x l ≡ after_pads x l
      → Ends actor (λ os. refuse_if b Perm (λ os. read x.a2 (16 * x.a3) (send_iovs x.a3 x.a4 (address_of l)) os) os) (drop n ts) r → SendHasCause x ts r
  source true is cause h = refused Perm (cause ∙ holds (not (is_own_source x.caller (address_of l))) Perm (after_source x l) is) (λ h. cc) h
  source false is cause h = listed-ends x generation ts r g (cause ∙ passed (not (is_own_source x.caller (address_of l))) Perm (after_source x l) is) h

  pads : (b : Bool) → not (is_send_addr (address_of l)) ≡ b
      → Ends actor (λ os. refuse_if b Inval (λ os. refuse_if (not (is_own_source x.caller (address_of l))) Perm (λ os. read x.a2 (16 * x.a3) (send_iovs x.a3 x.a4 (address_of l)) os) os) os) (drop n ts) r
      → SendHasCause x ts r
  pads true is h = refused Inval (cause ∙ holds (not (is_send_addr (address_of l))) Inval (after_pads x l) is) (λ h. cc) h
  pads false is h =
      source (not (is_own_source x.caller (address_of l))) refl (cause ∙ passed (not (is_send_addr (address_of l))) Inval (after_pads x l) is) h

-- a send from its first step on
send-ends : (x : Send) (generation : ℕ) (ts : List Transition) (r : Reply)
    → Ends (Vcpu x.caller generation) (λ os. sendv x.caller x.a1 x.a2 x.a3 x.a4 os) ts r → SendHasCause x ts r
send-ends x generation ts r h = counts (nat_lt 8 x.a3 || nat_le (2 ^ 32) x.a4) refl h where
  l : Looked
  l = looked_by x ts

  actor : Actor
  actor = Vcpu x.caller generation

  once : nat_lt 8 x.a3 || nat_le (2 ^ 32) x.a4 ≡ true → Over (says Inval) ts r → SendHasCause x ts r
  once is (Vanished some same) = send_vanishes x ts r some same
  once is (Replied none same) = send_refused x ts r Inval none (λ h. cc) (holds (nat_lt 8 x.a3 || nat_le (2 ^ 32) x.a4) Inval (after_counts x l) is) same

  reads : cause_of x l ≡ after_counts x l → Fetched x.caller generation (pieces x.a1 16) [] (says efault) (send_head x.caller x.a2 x.a3 x.a4) ts r → SendHasCause x ts r
  reads cause (Lost some same) = send_vanishes x ts r some same
  reads cause (Missed none absent same) = send_refused x ts r efault none (λ h. cc) (cause ∙ holds (is_none l.address) efault (after_address x l) (ap is_none absent)) same
  reads cause (Found bs all same later) =
      let P : List ℕ → Type 0 = λ addr. Ends actor (λ os. send_head x.caller x.a2 x.a3 x.a4 addr os) (drop (address_steps x) ts) r in
      addressed-ends x generation ts r same (cause ∙ passed (is_none l.address) efault (after_address x l) (ap is_none all))
      (subst P (sym (ap (λ o. unwrap_or o []) all)) later)

  counts : (b : Bool) → nat_lt 8 x.a3 || nat_le (2 ^ 32) x.a4 ≡ b
      → Ends actor (λ os. refuse_at_once_if b Inval (λ os. read x.a1 16 (send_head x.caller x.a2 x.a3 x.a4) os) os) ts r → SendHasCause x ts r
  counts true is h = once is (always actor Rest (says Inval) ts r h)
  counts false is h =
      reads (passed (nat_lt 8 x.a3 || nat_le (2 ^ 32) x.a4) Inval (after_counts x l) is)
      (fetch_all-ends x.caller generation (pieces x.a1 16) [] (says efault) (send_head x.caller x.a2 x.a3 x.a4) ts r h)

pub sends_have_causes : SendsHaveCauses
sends_have_causes x generation ts r h = send-ends x generation ts r (ends (Vcpu x.caller generation) (sendv x.caller x.a1 x.a2 x.a3 x.a4) ts r h)
