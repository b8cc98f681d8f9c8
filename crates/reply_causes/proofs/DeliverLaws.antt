-- Laws of a delivery: what it tells the sender, and whom it notes.
use Rattle.std.proofs.Common.{◌≡◌, ℕ, Bool, true, false, not, ◌&&◌, cond, length, Option, Some, None, refl, ap}
use Rattle.std.specs.Prelude.{option_and_then, option_map, pos}
use Rattle.argo_base.specs.declared.errno.Errno.{Errno}
use Rattle.argo_base.specs.declared.errno.Errno.TheVariants.{Perm, NoEnt, Srch, Again, Acces, Fault as efault, Busy, Exist, NoDev, Inval, NoSpc, MsgSize, OpNotSupp, ConnRefused}
use Rattle.argo_base.specs.declared.message.Message.{Message}
use Rattle.argo_base.specs.declared.ring_key.RingKey.{RingKey}
use Rattle.argo_base.specs.Match.{match_of}
use Rattle.argo_model.specs.declared.action.Action.TheVariants.{Deliver}
use Rattle.argo_model.specs.declared.action.Load.{Load}
use Rattle.argo_model.specs.declared.action.Outcome.TheVariants.{Refused, Accepted, Gone}
use Rattle.argo_model.specs.declared.reply.Reply.{Reply}
use Rattle.argo_model.specs.declared.reply.Reply.TheVariants.{Number}
use Rattle.argo_model.specs.Rules.State.{State, Domain, Live, Ring, domain_of, life_in}
use Rattle.argo_model.specs.Rules.Act.{act_if_there, act_if_live}
use Rattle.argo_model.specs.Rules.Effects.{Change, Effect, refused, leaving, refuse_if, lifted}
use Rattle.argo_model.specs.Rules.RingBytes.{PagedRing, set_paged}
use Rattle.argo_model.specs.Rules.Matches.{RingAt, paged_at, match_of_domain, match_in}
use Rattle.argo_model.specs.Rules.Deliver.{Offer, offer, accepted, deliver, offer_to_domain, offer_to_life, offer_to_match}
use Rattle.argo_model.specs.Programs.Asks.{Say}
use Rattle.argo_model.specs.Programs.Send.{say_accepted}
use Rattle.argo_model.specs.Laws.SendCauses.{says, row, IfCount}
use Rattle.reply_causes.proofs.StepLaws.{Tells}

-- nothing is said of a refusal as a count
pub refusal_counts : (e : Errno) (P : ℕ → Type 0) → IfCount (says e) P
refusal_counts Perm P = tt
refusal_counts NoEnt P = tt
refusal_counts Srch P = tt
refusal_counts Again P = tt
refusal_counts Acces P = tt
refusal_counts efault P = tt
refusal_counts Busy P = tt
refusal_counts Exist P = tt
refusal_counts NoDev P = tt
refusal_counts Inval P = tt
refusal_counts NoSpc P = tt
refusal_counts MsgSize P = tt
refusal_counts OpNotSupp P = tt
refusal_counts ConnRefused P = tt

-- the refusal is not -11
abbrev pub IsOther : Errno → Type 0
IsOther e = says e ≡ says Again → ⊥

-- what a change by a delivery tells the sender; where that is -11, the change is this; and where it is a count, so much was accepted,
-- and this holds of it
pub record Settled (N : Change Live → Type 0) (B : ℕ → Type 0) (c : Change Live) (q : Reply) : Type 0 where
  pub tells : Tells say_accepted c.outcome q
  pub noted : q ≡ says Again → N c
  pub brought : IfCount q (λ k. (c.outcome ≡ Accepted k) × B k)

pub settled_refused : (N : Change Live → Type 0) (B : ℕ → Type 0) (e : Errno) → IsOther e → Settled N B (refused e) (says e)
settled_refused N B e other =
    record {
      tells = record { stays = refl; says = refl };
      noted = λ h. absurd (other h);
      brought = refusal_counts e (λ k. (Refused e ≡ Accepted k) × B k);
    }

pub settled_if : (N : Change Live → Type 0) (B : ℕ → Type 0) (b : Bool) (e : Errno) (c : Change Live) (q : Reply) → IsOther e → Settled N B c q → Settled N B (refuse_if b e c) (row b e q)
settled_if N B true e c q other h = settled_refused N B e other
settled_if N B false e c q other h = h

-- an offer to a ring, and its cause, by the tests there
abbrev pub offered : (big fit busy : Bool) → Change PagedRing → PagedRing → Change PagedRing
offered big fit busy rest noting =
    refuse_if big MsgSize (cond fit rest (refuse_if busy Busy (leaving (Refused Again) noting)))

abbrev pub caused : (big fit busy absent : Bool) → ℕ → Reply
caused big fit busy absent n =
    row big MsgSize (row (not fit && not busy) Again (row (not fit) Busy (row absent efault (Number (pos n)))))

waits : (N : Change Live → Type 0) (B : ℕ → Type 0) (put : PagedRing → Live) (noting : PagedRing) → N (lifted put (leaving (Refused Again) noting))
    → Settled N B (lifted put (leaving (Refused Again) noting)) (says Again)
waits N B put noting noted = record { tells = record { stays = refl; says = refl }; noted = λ h. noted; brought = tt }

pub settled_faulted : (N : Change Live → Type 0) (B : ℕ → Type 0) (put : PagedRing → Live) (noting : PagedRing) (big fit busy : Bool) (n : ℕ)
    → N (lifted put (leaving (Refused Again) noting))
    → Settled N B (lifted put (offered big fit busy (refused efault) noting)) (caused big fit busy true n)
settled_faulted N B put noting true fit busy n noted = settled_refused N B MsgSize (λ h. cc)
settled_faulted N B put noting false true busy n noted = settled_refused N B efault (λ h. cc)
settled_faulted N B put noting false false true n noted = settled_refused N B Busy (λ h. cc)
settled_faulted N B put noting false false false n noted = waits N B put noting noted

pub settled_body : (N : Change Live → Type 0) (B : ℕ → Type 0) (put : PagedRing → Live) (noting p : PagedRing) (owner : ℕ) (m : Message) (big fit busy : Bool) (n : ℕ)
    → N (lifted put (leaving (Refused Again) noting)) → length m.body ≡ n → B n
    → Settled N B (lifted put (offered big fit busy (accepted p owner m) noting)) (caused big fit busy false n)
settled_body N B put noting p owner m true fit busy n noted size holds = settled_refused N B MsgSize (λ h. cc)
settled_body N B put noting p owner m false true busy n noted size holds =
    record {
      tells = record { stays = refl; says = ap (λ k. Say (Number (pos k))) size };
      noted = λ h. absurd (let no : ⊥ = cc in no);
      brought = (ap Accepted size, holds);
    }
settled_body N B put noting p owner m false false true n noted size holds = settled_refused N B Busy (λ h. cc)
settled_body N B put noting p owner m false false false n noted size holds = waits N B put noting noted

-- the change that an offer comes to at the ring that it meets
abbrev pub change_at : ℕ → Offer → Option RingAt → Change Live
change_at to o None = refused ConnRefused
change_at to o (Some m) = lifted (set_paged m.live m.key) (offer (paged_at m) to o)

pub offer_at : (to port : ℕ) (o : Offer) (found : Option Domain) → offer_to_domain to port o found ≡ change_at to o (option_and_then (match_of_domain to port o.sender) found)
offer_at to port o None = refl
offer_at to port o (Some x) = is_on x.on x.life where
  ring : (live : Live) (e : Option (RingKey × Ring)) → offer_to_match live to o e
      ≡ change_at to o (option_map (λ (e : RingKey × Ring). record { owner = to; domain = x; live = live; key = e.0; ring = e.1 }) e)
  ring live None = refl
  ring live (Some e) = refl

  life : (l : Option Live) → offer_to_life to port o l ≡ change_at to o (option_and_then (λ live. match_in to x live port o.sender) l)
  life None = refl
  life (Some live) = ring live (match_of live.rings port o.sender)

  is_on : (b : Bool) (l : Option Live) → refuse_if (not b) ConnRefused (offer_to_life to port o l)
      ≡ change_at to o (cond b (option_and_then (λ live. match_in to x live port o.sender) l) None)
  is_on true l = life l
  is_on false l = refl

-- a delivery of a virtual CPU: its domain is gone, or it delivers
pub data Delivery (s : State) (d to to_port : ℕ) (o : Offer) (e : Effect) : Type 0 where
  Vanishes : e.outcome ≡ Gone → Delivery s d to to_port o e
  Delivers : (x : Domain) → domain_of s d ≡ Some x → e ≡ deliver s x to to_port o → Delivery s d to to_port o e

pub delivery : (s : State) (d generation port to to_port kind : ℕ) (load : Load)
    → Delivery s d to to_port (record { sender = d; port = port; kind = kind; load = load }) (act_if_there s d generation (domain_of s d) (Deliver port to to_port kind load))
delivery s d generation port to to_port kind load = by (domain_of s d) refl where
  o : Offer
  o = record { sender = d; port = port; kind = kind; load = load }

  life : (x : Domain) → domain_of s d ≡ Some x → (l : Option Live) → Delivery s d to to_port o (act_if_live s d x l (Deliver port to to_port kind load))
  life x here None = Vanishes refl
  life x here (Some live) = Delivers x here refl

  by : (f : Option Domain) → domain_of s d ≡ f → Delivery s d to to_port o (act_if_there s d generation f (Deliver port to to_port kind load))
  by None here = Vanishes refl
  by (Some x) here = life x here (life_in generation x)
