-- Laws of the steps of a domain on the rings that they meet: deliveries and questions.
use Rattle.std.proofs.Common.{◌≡◌, ℕ, Bool, true, false, if◌then◌else◌, ◌==◌, ◌&&◌, ◌⊎◌, not, IsTrue, [], ◌∷◌, length, Option, Some, None, option_map, option_and_then, ⊎_elim, inl, inr, refl, sym, ap, ◌∙◌, subst}
use Rattle.std.specs.Prelude.{IfSome}
use Rattle.std.specs.Map.{lookup}
use Rattle.std.specs.BTreeMap.{is_at}
use Rattle.std.proofs.lemmas.Bool.{cases_eq, and_from}
use Rattle.argo_base.specs.declared.errno.Errno.{Errno}
use Rattle.argo_base.specs.declared.errno.Errno.TheVariants.{Srch, NoDev, ConnRefused, MsgSize, Again, Busy, Fault as efault}
use Rattle.argo_base.specs.declared.message.Message.{Message}
use Rattle.argo_base.specs.declared.ring_key.RingKey.{RingKey}
use Rattle.argo_base.specs.Match.{key_cmp, match_of}
use Rattle.argo_base.specs.Notices.{Notices, size_of, is_busy, noted, withdrawn}
use Rattle.argo_base.specs.Slots.{fits, is_too_big}
use Rattle.argo_model.specs.declared.action.Action.{Action}
use Rattle.argo_model.specs.declared.action.Action.TheVariants.{Deliver, Query}
use Rattle.argo_model.specs.declared.action.Load.{Load}
use Rattle.argo_model.specs.declared.action.Load.TheVariants.{Body, Faulted, Refused as RefusedLoad}
use Rattle.argo_model.specs.declared.action.Outcome.{Outcome}
use Rattle.argo_model.specs.declared.action.Outcome.TheVariants.{Accepted, Refused, Answer as Answered}
use Rattle.argo_model.specs.declared.reply.Reply.{Reply}
use Rattle.argo_model.specs.declared.scripts.Actor.TheVariants.{Vcpu}
use Rattle.argo_model.specs.Laws.NoticeEnds.{MakesNotice, EndsByRoom, waits_in}
use Rattle.argo_model.specs.Laws.RingNames.{RingName, has_name, is_met, is_there_and}
use Rattle.argo_model.specs.Laws.Transitions.{Transition}
use Rattle.argo_model.specs.Rules.Deliver.{Offer, message_of, with_message, with_notice, accepted, wait_for_room, if_it_fits, offer_load, offer_to_match, offer_to_life, offer_to_domain}
use Rattle.argo_model.specs.Rules.Effects.{Change, answered, refused, leaving, refuse_if, lifted, change_in}
use Rattle.argo_model.specs.Rules.Matches.{RingAt, match_at, match_of_domain, match_in}
use Rattle.argo_model.specs.Rules.Query.{Request, request, answer_of, sufficient_flag, msgsize_flag, busy_flag, query_ring, query_match, query_life, query_domain, no_answer}
use Rattle.argo_model.specs.Rules.RingBytes.{PagedRing, paged, free, set_paged, with_notices}
use Rattle.argo_model.specs.Rules.State.{State, Domain, Live, Ring, domain_of, is_alive}
use Rattle.argo_laws.specs.Steps.{StandsWith}
use Rattle.state_laws.specs.Valid.{IsLive, IsValid}
use Rattle.state_laws.proofs.Domains.{fit_found}
use Rattle.state_laws.proofs.Lives.{matched}
use Rattle.state_laws.proofs.Rising.{IsRising}
use Rattle.argo_laws.proofs.Names.{eqb_self}
use Rattle.argo_laws.proofs.Changes.{Found}
use Rattle.argo_laws.proofs.Sizes.{still, noted_stands, noted_was, withdrawn_same, withdrawn_other}
use Rattle.argo_laws.proofs.Rings.{Lawful, goes_same, lawful_same, moves_to, lawful_if, replaced, flags_by, rings_by, made_at, made_name, choice, stands_here, goes_here}

-- what becomes of a request for room
abbrev busy_part : PagedRing → ℕ → ℕ → Bool → Request
busy_part p d need b = if b then record { flag = busy_flag; notices = p.ring.notices } else record { flag = 0; notices = noted p.ring.notices d need }

abbrev room_part : PagedRing → ℕ → ℕ → Bool → Bool → Request
room_part p d need a b = if a then record { flag = sufficient_flag; notices = withdrawn p.ring.notices d } else busy_part p d need b

abbrev big_part : PagedRing → ℕ → ℕ → Bool → Bool → Bool → Request
big_part p d need c a b = if c then record { flag = msgsize_flag; notices = p.ring.notices } else room_part p d need a b

record Stays (p : PagedRing) (r : Request) : Type 0 where
  notices : r.notices ≡ p.ring.notices

record FindsRoom (p : PagedRing) (d : ℕ) (r : Request) : Type 0 where
  notices : r.notices ≡ withdrawn p.ring.notices d
  flag : r.flag ≡ sufficient_flag

record Waits (p : PagedRing) (d need : ℕ) (r : Request) : Type 0 where
  notices : r.notices ≡ noted p.ring.notices d need
  flag : r.flag ≡ 0

requested : (p : PagedRing) (d need : ℕ) → Stays p (request p d need) ⊎ (FindsRoom p d (request p d need) ⊎ Waits p d need (request p d need))
requested p d need = by (is_too_big p.ring.len need) (fits (free p) need) (is_busy p.ring.notices d) where
  by : (c a b : Bool) → Stays p (big_part p d need c a b) ⊎ (FindsRoom p d (big_part p d need c a b) ⊎ Waits p d need (big_part p d need c a b))
  by true a b = inl (record { notices = refl })
  by false true b = inr (inl (record { notices = refl; flag = refl }))
  by false false true = inl (record { notices = refl })
  by false false false = inr (inr (record { notices = refl; flag = refl }))

named_so : (to g n : ℕ) → IsTrue ((to == to) && (g == g) && (n == n))
named_so to g n = and_from ((to == to) && (g == g)) (n == n) (and_from (to == to) (g == g) (eqb_self to) (eqb_self g)) (eqb_self n)

not_both : (o : Option ℕ) (n : ℕ) → o ≡ None → o ≡ Some n → ⊥
not_both o n none some = cc

-- the ring that a domain meets
module _ (d g v k : ℕ) (r : Option Reply) (s : State) (valid : IsValid s) (to port : ℕ) (y : Domain) (old : Live) (f : Found s to y old) (on : y.on ≡ true) (e : RingKey × Ring)
    (met : match_of old.rings port d ≡ Some e) where
  pub good : IsLive (is_alive s) old
  good = subst (λ (l : Option Live). IfSome l (IsLive (is_alive s))) f.life (fit_found (is_alive s) s to y f.here valid.lives)

  pub here : lookup (is_at (key_cmp e.0)) old.rings ≡ Some e.1
  here = (matched old.rings port d e met).found

  abbrev pub at : RingAt
  at = made_at to y old e.0 e.1

  abbrev pub name : RingName
  name = made_name to y.generation e.1.serial

  pub match_is : match_at s to port d ≡ Some at
  match_is =
      ap (option_and_then (match_of_domain to port d)) f.here
      ∙ ap (λ (b : Bool). if b then option_and_then (λ (live : Live). match_in to y live port d) y.life else None) on
      ∙ ap (option_and_then (λ (live : Live). match_in to y live port d)) f.life
      ∙ ap (option_map (λ (z : RingKey × Ring). made_at to y old z.0 z.1)) met

  pub is_met_here : IsTrue (is_met s name to port d)
  is_met_here = subst (λ (o : Option RingAt). IsTrue (is_there_and (has_name name) o)) (sym match_is) (named_so to y.generation e.1.serial)

  rising : IsRising e.1.notices
  rising = (choice s to y old f e.0 e.1 good here).ring.one_notice_each

  abbrev pub p : PagedRing
  p = paged old.bytes e.1

  -- a change of that ring
  abbrev pub ring_step : Action → Change PagedRing → Transition
  ring_step a c = moves_to (Vcpu d g) v k r s a (change_in s to (lifted (set_paged old e.0) c))

  ring_if : (a : Action) (test : Bool) (err : Errno) (rest : Change PagedRing) → (test ≡ false → Lawful (ring_step a rest)) → Lawful (ring_step a (refuse_if test err rest))
  ring_if a true err rest h = lawful_same (ring_step a (refused err)) refl
  ring_if a false err rest h = h refl

  -- a notice is set, or raised
  lawful_noted : (a : Action) (o : Outcome) (need : ℕ) (ns : Notices) → ns ≡ noted e.1.notices d need → MakesNotice (replaced (Vcpu d g) v k r s to y old f a o (set_paged old e.0 (with_notices p ns)) []) name d
      → Lawful (ring_step a (leaving o (with_notices p ns)))
  lawful_noted a o need ns is makes =
      let new = set_paged old e.0 (with_notices p ns) in
      let t = replaced (Vcpu d g) v k r s to y old f a o new [] in
      record {
        flags = flags_by (Vcpu d g) v k r s to y old f a o new [] refl (λ q i. absurd i);
        notices = rings_by (Vcpu d g) v k r s to y old f a o new [] (goes_here s to y old f e.0 e.1 good here t (with_notices p ns).ring refl
            (record {
              ends = λ z st q size stood. inl (subst (λ ms. StandsWith size (size_of ms q)) (sym is) (noted_stands e.1.notices d need q size stood));
              made = λ q size stands. ⊎_elim (λ same. inr (subst (MakesNotice t name) (sym same) makes)) (λ was. inl was)
                  (noted_was e.1.notices d need q size (ap (λ ms. size_of ms q) (sym is) ∙ stands));
            }));
      }

  -- nothing is noted
  lawful_quiet : (a : Action) (o : Outcome) (ns : Notices) → ns ≡ e.1.notices → Lawful (ring_step a (leaving o (with_notices p ns)))
  lawful_quiet a o ns is =
      let new = set_paged old e.0 (with_notices p ns) in
      let t = replaced (Vcpu d g) v k r s to y old f a o new [] in
      record {
        flags = flags_by (Vcpu d g) v k r s to y old f a o new [] refl (λ q i. absurd i);
        notices = rings_by (Vcpu d g) v k r s to y old f a o new [] (goes_here s to y old f e.0 e.1 good here t (with_notices p ns).ring refl (goes_same t name e (e.0, (with_notices p ns).ring) is));
      }

  -- ---- an offer

  module _ (src kind : ℕ) (load : Load) where
    abbrev a : Action
    a = Deliver src to port kind load

    lawful_wait : (n : ℕ) → Lawful (ring_step a (wait_for_room p d n))
    lawful_wait n =
        ring_if a (is_busy e.1.notices d) Busy (leaving (Refused Again) (with_notice d n p))
        (λ busy. lawful_noted a (Refused Again) n (noted e.1.notices d n) refl (record { by_sender = refl; of_ring = is_met_here; refused = refl }))

    lawful_fit : (n : ℕ) (rest : Change PagedRing) → Lawful (ring_step a rest) → Lawful (ring_step a (if_it_fits p d n rest))
    lawful_fit n rest h =
        ring_if a (is_too_big e.1.len n) MsgSize (if fits (free p) n then rest else wait_for_room p d n) (λ small. by (fits (free p) n)) where
          by : (b : Bool) → Lawful (ring_step a (if b then rest else wait_for_room p d n))
          by true = h
          by false = lawful_wait n

    lawful_accepted : (m : Message) → Lawful (ring_step a (accepted p to m))
    lawful_accepted m =
        let new = set_paged old e.0 (with_message p m) in
        let o = Accepted (length m.body) in
        let t = replaced (Vcpu d g) v k r s to y old f a o new (to ∷ []) in
        record {
          flags = flags_by (Vcpu d g) v k r s to y old f a o new (to ∷ []) refl (λ q i. ⊎_elim (λ same. (same, refl)) (λ none. absurd none) i);
          notices = rings_by (Vcpu d g) v k r s to y old f a o new (to ∷ []) (goes_here s to y old f e.0 e.1 good here t (with_message p m).ring refl (goes_same t name e (e.0, (with_message p m).ring) refl));
        }

    pub lawful_load : (l : Load) → Lawful (ring_step a (offer_load p to (record { sender = d; port = src; kind = kind; load = load }) l))
    lawful_load (RefusedLoad err) = lawful_same (ring_step a (refused err)) refl
    lawful_load (Faulted n) = lawful_fit n (refused efault) (lawful_same (ring_step a (refused efault)) refl)
    lawful_load (Body bytes) = lawful_fit (length bytes) (accepted p to (message_of (record { sender = d; port = src; kind = kind; load = load }) bytes))
        (lawful_accepted (message_of (record { sender = d; port = src; kind = kind; load = load }) bytes))

  -- ---- a question

  pub lawful_question : (need : ℕ) → Lawful (ring_step (Query to port need) (query_ring p e.0 d need))
  lawful_question need =
      ⊎_elim (λ (q : Stays p (request p d need)). lawful_quiet (Query to port need) (Answered (answer_of p e.0 d need)) (request p d need).notices q.notices)
      (⊎_elim (λ q. lawful_room q) (λ (q : Waits p d need (request p d need)). lawful_noted (Query to port need) (Answered (answer_of p e.0 d need)) need (request p d need).notices q.notices
      (record { by_sender = refl; of_ring = is_met_here; waits = subst (λ (o : Option RingAt). IsTrue (is_there_and (waits_in d need) o)) (sym match_is) (no_flag q.flag) })))
      (requested p d need) where
        no_flag : (request p d need).flag ≡ 0 → IsTrue ((request p d need).flag == 0)
        no_flag is = ap (λ n. n == 0) is

        lawful_room : FindsRoom p d (request p d need) → Lawful (ring_step (Query to port need) (query_ring p e.0 d need))
        lawful_room q =
            let a = Query to port need in
            let o = Answered (answer_of p e.0 d need) in
            let ns = (request p d need).notices in
            let new = set_paged old e.0 (with_notices p ns) in
            let t = replaced (Vcpu d g) v k r s to y old f a o new [] in
            record {
              flags = flags_by (Vcpu d g) v k r s to y old f a o new [] refl (λ z i. absurd i);
              notices = rings_by (Vcpu d g) v k r s to y old f a o new [] (goes_here s to y old f e.0 e.1 good here t (with_notices p ns).ring refl
                  (record {
                    ends = λ z st w size stood. ⊎_elim
                        (λ same. inr (
                          subst (λ n. size_of ns n ≡ None) (sym same) (ap (λ ms. size_of ms d) q.notices ∙ withdrawn_same e.1.notices d rising),
                          subst (λ n. EndsByRoom t z n to port need) (sym same)
                              (subst (λ u. EndsByRoom t u d to port need) (sym (stands_here s to y old f e.0 e.1 good here z st)) (record { by_sender = refl; is_match = match_is; answered = refl; found_room = q.flag })),
                        ))
                        (λ apart. inl (subst (StandsWith size) (sym (ap (λ ms. size_of ms w) q.notices ∙ withdrawn_other e.1.notices d w apart)) (still e.1.notices w size stood)))
                        (cases_eq w d);
                    made = λ w size stands. ⊎_elim
                        (λ same. absurd (not_both (size_of ns w) size (subst (λ n. size_of ns n ≡ None) (sym same) (ap (λ ms. size_of ms d) q.notices ∙ withdrawn_same e.1.notices d rising)) stands))
                        (λ apart. inl (sym (ap (λ ms. size_of ms w) q.notices ∙ withdrawn_other e.1.notices d w apart) ∙ stands))
                        (cases_eq w d);
                  }));
            }

-- ---- the whole of both

module _ (d g v k : ℕ) (r : Option Reply) (s : State) (valid : IsValid s) (x : Domain) where
  abbrev to_state : Action → ℕ → Change Live → Transition
  to_state a to c = moves_to (Vcpu d g) v k r s a (change_in s to c)

  pub lawful_deliver : (src to port kind : ℕ) (load : Load)
      → Lawful (to_state (Deliver src to port kind load) to (
      refuse_if (not (is_alive s to)) Srch (
      refuse_if (not x.on) NoDev (
      offer_to_domain to port (record { sender = d; port = src; kind = kind; load = load }) (domain_of s to)))))
  lawful_deliver src to port kind load =
      let a = Deliver src to port kind load in
      let o : Offer = record { sender = d; port = src; kind = kind; load = load } in
      let rest = offer_to_domain to port o (domain_of s to) in
      lawful_if (Vcpu d g) v k r s a to (not (is_alive s to)) Srch (refuse_if (not x.on) NoDev rest) (λ e.
      lawful_if (Vcpu d g) v k r s a to (not x.on) NoDev rest (λ e. there (domain_of s to) refl)) where
        matches : (y : Domain) (old : Live) → Found s to y old → y.on ≡ true → (m : Option (RingKey × Ring)) → match_of old.rings port d ≡ m
            → Lawful (to_state (Deliver src to port kind load) to (offer_to_match old to (record { sender = d; port = src; kind = kind; load = load }) m))
        matches y old f on None is = lawful_same (to_state (Deliver src to port kind load) to (refused ConnRefused)) refl
        matches y old f on (Some e) is = lawful_load d g v k r s valid to port y old f on e is src kind load load

        lives : (y : Domain) → domain_of s to ≡ Some y → y.on ≡ true → (l : Option Live) → y.life ≡ l
            → Lawful (to_state (Deliver src to port kind load) to (offer_to_life to port (record { sender = d; port = src; kind = kind; load = load }) l))
        lives y here on None is = lawful_same (to_state (Deliver src to port kind load) to (refused ConnRefused)) refl
        lives y here on (Some old) is = matches y old (record { here = here; life = is }) on (match_of old.rings port d) refl

        not_off : (b : Bool) → not b ≡ false → b ≡ true
        not_off true h = refl
        not_off false h = cc

        there : (y : Option Domain) → domain_of s to ≡ y
            → Lawful (to_state (Deliver src to port kind load) to (offer_to_domain to port (record { sender = d; port = src; kind = kind; load = load }) y))
        there None here = lawful_same (to_state (Deliver src to port kind load) to (refused ConnRefused)) refl
        there (Some y) here =
            lawful_if (Vcpu d g) v k r s (Deliver src to port kind load) to (not y.on) ConnRefused (offer_to_life to port (record { sender = d; port = src; kind = kind; load = load }) y.life)
            (λ h. lives y here (not_off y.on h) y.life refl)

  pub lawful_query : (to port need : ℕ) → Lawful (to_state (Query to port need) to (refuse_if (not x.on) NoDev (query_domain d port need (domain_of s to))))
  lawful_query to port need =
      lawful_if (Vcpu d g) v k r s (Query to port need) to (not x.on) NoDev (query_domain d port need (domain_of s to)) (λ e. there (domain_of s to) refl) where
        matches : (y : Domain) (old : Live) → Found s to y old → y.on ≡ true → (m : Option (RingKey × Ring)) → match_of old.rings port d ≡ m → Lawful (to_state (Query to port need) to (query_match old d need m))
        matches y old f on None is = lawful_same (to_state (Query to port need) to (answered (Answered no_answer))) refl
        matches y old f on (Some e) is = lawful_question d g v k r s valid to port y old f on e is need

        lives : (y : Domain) → domain_of s to ≡ Some y → y.on ≡ true → (l : Option Live) → y.life ≡ l → Lawful (to_state (Query to port need) to (query_life d port need l))
        lives y found on None is = lawful_same (to_state (Query to port need) to (answered (Answered no_answer))) refl
        lives y found on (Some old) is = matches y old (record { here = found; life = is }) on (match_of old.rings port d) refl

        there : (y : Option Domain) → domain_of s to ≡ y → Lawful (to_state (Query to port need) to (query_domain d port need y))
        there None found = lawful_same (to_state (Query to port need) to (answered (Answered no_answer))) refl
        there (Some y) found = by y.on refl where
          by : (b : Bool) → y.on ≡ b → Lawful (to_state (Query to port need) to (if b then query_life d port need y.life else answered (Answered no_answer)))
          by true on = lives y found on y.life refl
          by false off = lawful_same (to_state (Query to port need) to (answered (Answered no_answer))) refl
