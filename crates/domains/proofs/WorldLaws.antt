-- Laws of the world's domains: one that is found, and one that has changed.
use Rattle.std.proofs.Common.{◌≡◌, ℕ, ◌<◌, ◌≤◌, ◌^◌, ◌==◌, ◌&&◌, Bool, true, false, not, if◌then◌else◌, unwrap_or, nat_le, IsTrue, List, [], length, Option, Some, None, IfSome, is_some, option_map, Result, Ok, Err, IfOk, IfErr, OnErr, refl, sym, ap, ◌∙◌, arith}
use Rattle.std.proofs.lemmas.Bool.{false≢true}
use Rattle.std.proofs.lemmas.Bool.Decides.{nat_tests}
use Rattle.std.proofs.lemmas.Map.Steps.{set_value_same}
use Rattle.std.specs.Ordering.{nat_cmp}
use Rattle.std.specs.BTreeMap.{is_at}
use Rattle.argo_base.specs.Match.{key_of, match_of}
use Rattle.argo_base.specs.Notices.{is_busy}
use Rattle.argo_base.specs.Slots.{fits, is_too_big}
use Rattle.argo_base.specs.declared.errno.Errno.TheVariants.{Srch, NoEnt, NoDev, ConnRefused, MsgSize, Again, Busy, Fault as EFault}
use Rattle.argo_base.specs.declared.ring_key.RingKey.{RingKey}
use Rattle.argo_model.specs.declared.action.Load.{Load}
use Rattle.argo_model.specs.declared.action.Load.TheVariants.{Body, Faulted, Refused as RefusedLoad}
use Rattle.argo_model.specs.Rules.Deliver.{Offer, offer_load, offer_to_match, offer_to_life, offer_to_domain, if_it_fits, with_notice, accepted, message_of}
use Rattle.argo_model.specs.Rules.Query.{query_match, query_life, query_domain, no_answer}
use Rattle.argo_model.specs.Rules.RingBytes.{PagedRing, paged, free}
use Rattle.argo_model.specs.declared.scripts.Actor.TheVariants.{Vcpu}
use Rattle.argo_model.specs.declared.action.Action.{Action}
use Rattle.argo_model.specs.declared.action.Action.TheVariants.{Rest, Fetch, Put, Register, Unregister, Deliver, Sweep, Query, Look, Destroy, Reset, Create}
use Rattle.argo_model.specs.declared.action.Outcome.{Outcome}
use Rattle.argo_model.specs.declared.action.Outcome.TheVariants.{Done, Fault, Refused, Answer as Answered}
use Rattle.argo_model.specs.Rules.State.{State, Domain, Live, Ring, domain_of, set_domain, life_in, signal_all, change_found, is_alive, is_on, has_page}
use Rattle.argo_model.specs.Rules.Act.{act, act_of, act_if_there, act_if_live, put}
use Rattle.argo_model.specs.Rules.Effects.{Change, change_in, set_left, with_life, answered, refused, leaving, refuse_if, after}
use Rattle.argo_model.specs.Rules.Puts.{put_into}
use Rattle.argo_model.specs.Rules.Register.{is_single, has_ring, without_ring, register_own}
use Rattle.live_domain.specs.Own.{is_own, own_change, take_away}
use Rattle.domains.specs.Domain.{own_if_live, sweep_if_live, with_left}
use Rattle.section_world.specs.Acts.{caller_on, on_if_live, on_if_there}
use Rattle.section_world.specs.Young.{is_young_life, is_young_domain}
use Rattle.live_domain.specs.declared.registration.Registration.{Registration}
use Rattle.domains.specs.World.{accepted_signals, register_change, registered, registered_if_live, registered_if_there}
use Rattle.live_domain.proofs.TestLaws.{both}

-- what holds in any case holds after an error
pub in_any_case : {T E P : Type 0} (r : Result T E) → P → OnErr r P
in_any_case (Ok x) p = tt
in_any_case (Err e) p = p

-- a domain put back as it was changes nothing
pub set_domain-same : (s : State) (d : ℕ) (x : Domain) → domain_of s d ≡ Some x → set_domain s d x ≡ s
set_domain-same s d x e = set_value_same (is_at (nat_cmp d)) s x e

-- a domain that is there, after a change of what it has alive
set_left-there : (s : State) (d : ℕ) (x : Domain) (left : Option Live) → domain_of s d ≡ Some x → set_left s d left ≡ set_domain s d (with_left x left)
set_left-there s d x None there = sym (set_domain-same s d x there)
set_left-there s d x (Some live) there = ap (change_found s d (with_life live)) there

pub changed : (s : State) (d : ℕ) (x : Domain) (c : Change Live) → domain_of s d ≡ Some x
    → change_in s d c ≡ record { outcome = c.outcome; state = signal_all (set_domain s d (with_left x c.left)) c.signals }
changed s d x c there = ap (λ t. record { outcome = c.outcome; state = signal_all t c.signals }) (set_left-there s d x c.left there)

-- an act of a domain on what it has itself, where it lives
own_lives : (s : State) (d : ℕ) (x : Domain) (live : Live) (a : Action) → IsTrue (is_own a) → act_of s d x live a ≡ change_in s d (own_change x.on live a)
own_lives s d x live Rest own = refl
own_lives s d x live (Fetch page off n) own = refl
own_lives s d x live (Put page off bytes) own = refl
own_lives s d x live (Register port partner len pages fail_exist) own = absurd (false≢true own)
own_lives s d x live (Unregister port partner) own = refl
own_lives s d x live (Deliver port to to_port kind load) own = absurd (false≢true own)
own_lives s d x live (Sweep serial) own = absurd (false≢true own)
own_lives s d x live (Query to to_port need) own = absurd (false≢true own)
own_lives s d x live Look own = refl
own_lives s d x live (Destroy dom) own = absurd (false≢true own)
own_lives s d x live (Reset dom) own = absurd (false≢true own)
own_lives s d x live (Create dom) own = absurd (false≢true own)

pub own_acts : (s : State) (d generation : ℕ) (x : Domain) (a : Action) → IsTrue (is_own a) → domain_of s d ≡ Some x
    → act (Vcpu d generation) a s ≡ change_in s d (own_if_live x.on (life_in generation x) a)
own_acts s d generation x a own there = ap (λ o. act_if_there s d generation o a) there ∙ by (life_in generation x) where
  by : (life : Option Live) → act_if_live s d x life a ≡ change_in s d (own_if_live x.on life a)
  by None = refl
  by (Some live) = own_lives s d x live a own

-- an act that changes nothing: a value shows its outcome, or an error does
pub value_acts : {T E : Type 0} (r : Result T E) (f : T → Outcome) (s : State) (d generation : ℕ) (x : Domain) (a : Action) → IsTrue (is_own a) → domain_of s d ≡ Some x
    → IfOk r (λ v. own_if_live x.on (life_in generation x) a ≡ answered (f v)) → IfOk r (λ v. act (Vcpu d generation) a s ≡ record { outcome = f v; state = s })
value_acts (Ok v) f s d generation x a own there is = own_acts s d generation x a own there ∙ ap (change_in s d) is
value_acts (Err e) f s d generation x a own there is = tt

pub error_acts : {T E : Type 0} (r : Result T E) (f : E → Outcome) (s : State) (d generation : ℕ) (x : Domain) (a : Action) → IsTrue (is_own a) → domain_of s d ≡ Some x
    → IfErr r (λ e. own_if_live x.on (life_in generation x) a ≡ answered (f e)) → IfErr r (λ e. act (Vcpu d generation) a s ≡ record { outcome = f e; state = s })
error_acts (Ok v) f s d generation x a own there is = tt
error_acts (Err e) f s d generation x a own there is = own_acts s d generation x a own there ∙ ap (change_in s d) is

-- it signals nobody
put_quiet : (live : Live) (page off : ℕ) (bytes : List ℕ) → (put live page off bytes).signals ≡ []
put_quiet live page off bytes = by (has_page live page) where
  by : (b : Bool) → (if b then leaving Done (put_into live page off bytes) else answered {X = Live} Fault).signals ≡ []
  by true = refl
  by false = refl

take_quiet : (on : Bool) (live : Live) (key : RingKey) → (refuse_if (not on) NoDev (take_away live key)).signals ≡ []
take_quiet on live key = by on (has_ring live key) where
  by : (on has : Bool) → (refuse_if (not on) NoDev (refuse_if (not has) NoEnt (leaving Done (without_ring live key)))).signals ≡ []
  by true true = refl
  by true false = refl
  by false has = refl

pub own_quiet : (on : Bool) (life : Option Live) (a : Action) → (own_if_live on life a).signals ≡ []
own_quiet on None a = refl
own_quiet on (Some live) Rest = refl
own_quiet on (Some live) (Fetch page off n) = refl
own_quiet on (Some live) (Put page off bytes) = put_quiet live page off bytes
own_quiet on (Some live) (Register port partner len pages fail_exist) = refl
own_quiet on (Some live) (Unregister port partner) = take_quiet on live (key_of port partner)
own_quiet on (Some live) (Deliver port to to_port kind load) = refl
own_quiet on (Some live) (Sweep serial) = refl
own_quiet on (Some live) (Query to to_port need) = refl
own_quiet on (Some live) Look = refl
own_quiet on (Some live) (Destroy dom) = refl
own_quiet on (Some live) (Reset dom) = refl
own_quiet on (Some live) (Create dom) = refl

-- a sweep
pub sweep_acts : (s : State) (d generation : ℕ) (x : Domain) (serial : ℕ) → domain_of s d ≡ Some x
    → act (Vcpu d generation) (Sweep serial) s ≡ change_in s d (sweep_if_live x (life_in generation x) serial)
sweep_acts s d generation x serial there = ap (λ o. act_if_there s d generation o (Sweep serial)) there ∙ by (life_in generation x) where
  by : (life : Option Live) → act_if_live s d x life (Sweep serial) ≡ change_in s d (sweep_if_live x life serial)
  by None = refl
  by (Some live) = refl

-- a registration that neither its partner nor its caller is in the way of
pub registers_own : (s : State) (x : Domain) (live : Live) (r : Registration)
    → (is_single r.key.partner && not (is_alive s r.key.partner)) ≡ false → x.on ≡ true → (is_single r.key.partner && not (is_on s r.key.partner)) ≡ false
    → register_change s x live r ≡ register_own live r.key r.len r.pages r.fail_exist
registers_own s x live r alive on partner_on =
    let rest = register_own live r.key r.len r.pages r.fail_exist in
    let last = refuse_if (is_single r.key.partner && not (is_on s r.key.partner)) ConnRefused rest in
    ap (λ b. refuse_if b Srch (refuse_if (not x.on) NoDev last)) alive
    ∙ ap (λ b. refuse_if (not b) NoDev last) on
    ∙ ap (λ b. refuse_if b ConnRefused rest) partner_on

-- whom the registration of a caller signals
pub registered_by : (s : State) (d generation : ℕ) (x : Domain) (live : Live) (r : Registration) → domain_of s d ≡ Some x → life_in generation x ≡ Some live
    → registered s d generation r ≡ (register_change s x live r).signals
registered_by s d generation x live r here found = ap (λ o. registered_if_there s generation o r) here ∙ ap (λ l. registered_if_live s x l r) found

-- what is young
pub young_generation : (n : ℕ) (x : Domain) → IsTrue (is_young_domain n x) → x.generation ≤ n
young_generation n x h = let g = (both (nat_le x.generation n) (is_young_life n x.life) h).0 in grind (arith, nat_tests)

pub young_enough : (x : Domain) → IsTrue (is_young_domain (2 ^ 62) x) → IfSome x.life (λ live. live.next_serial < 2 ^ 63)
young_enough x h = by x.life (both (nat_le x.generation (2 ^ 62)) (is_young_life (2 ^ 62) x.life) h).1 where
  by : (life : Option Live) → IsTrue (is_young_life (2 ^ 62) life) → IfSome life (λ live. live.next_serial < 2 ^ 63)
  by None h = tt
  by (Some live) h = grind (arith, nat_tests)

-- a change of what is there leaves it there
pub still_some : {A B : Type 0} (f : A → B) (o : Option A) → is_some (option_map f o) ≡ is_some o
still_some f None = refl
still_some f (Some x) = refl

-- what a domain is found to have alive is its life
life_in-some : (g : ℕ) (x : Domain) (live : Live) → life_in g x ≡ Some live → x.life ≡ Some live
life_in-some g x live found = by (x.generation == g) found where
  by : (b : Bool) → (if b then x.life else None) ≡ Some live → x.life ≡ Some live
  by true h = h
  by false h = cc

-- a domain that lives, after a change of what it has alive
pub life_after : (x : Domain) (live : Live) (c : Change Live) → x.life ≡ Some live → record x { life = Some (after live c) } ≡ with_left x c.left
life_after x live c lives = by c.left where
  by : (left : Option Live) → record x { life = Some (unwrap_or left live) } ≡ with_left x left
  by None = ap (λ l. record x { life = l }) (sym lives)
  by (Some l) = refl

-- ---- callers

-- what is known where a domain performs an action
pub record Calls (s : State) (d generation : ℕ) (on : Bool) : Type 0 where
  pub domain : Domain
  pub live : Live
  pub here : domain_of s d ≡ Some domain
  pub found : life_in generation domain ≡ Some live
  pub lives : domain.life ≡ Some live
  pub is_on : domain.on ≡ on
  pub acts : (a : Action) → act (Vcpu d generation) a s ≡ act_of s d domain live a

pub calls : (s : State) (d generation : ℕ) (on : Bool) → caller_on s d generation ≡ Some on → Calls s d generation on
calls s d generation on found = there (domain_of s d) refl found where
  lives : (x : Domain) → domain_of s d ≡ Some x → (life : Option Live) → life_in generation x ≡ life → on_if_live x life ≡ Some on → Calls s d generation on
  lives x here None is found = cc
  lives x here (Some live) is found = record {
    domain = x;
    live = live;
    here = here;
    found = is;
    lives = life_in-some generation x live is;
    is_on = cc;
    acts = λ a. ap (λ o. act_if_there s d generation o a) here ∙ ap (λ o. act_if_live s d x o a) is;
  }

  there : (o : Option Domain) → domain_of s d ≡ o → on_if_there generation o ≡ Some on → Calls s d generation on
  there None here found = cc
  there (Some x) here found = lives x here (life_in generation x) refl found

-- ---- whom acts on others signal

query_matched : (live : Live) (d need : ℕ) (o : Option (RingKey × Ring)) → (query_match live d need o).signals ≡ []
query_matched live d need None = refl
query_matched live d need (Some e) = refl

pub query_quiet : (d port need : ℕ) (x : Domain) → (query_domain d port need (Some x)).signals ≡ []
query_quiet d port need x = by x.on where
  life : (l : Option Live) → (query_life d port need l).signals ≡ []
  life None = refl
  life (Some live) = query_matched live d need (match_of live.rings port d)

  by : (on : Bool) → (if on then query_life d port need x.life else answered {X = Live} (Answered no_answer)).signals ≡ []
  by true = life x.life
  by false = refl

fits_signals : (p : PagedRing) (owner sender n : ℕ) (rest : Change PagedRing) → rest.signals ≡ accepted_signals owner rest.outcome
    → (if_it_fits p sender n rest).signals ≡ accepted_signals owner (if_it_fits p sender n rest).outcome
fits_signals p owner sender n rest same = by (is_too_big p.ring.len n) (fits (free p) n) (is_busy p.ring.notices sender) where
  by : (big fit busy : Bool)
      → (refuse_if big MsgSize (if fit then rest else refuse_if busy Busy (leaving (Refused Again) (with_notice sender n p)))).signals
      ≡ accepted_signals owner (refuse_if big MsgSize (if fit then rest else refuse_if busy Busy (leaving (Refused Again) (with_notice sender n p)))).outcome
  by true fit busy = refl
  by false true busy = same
  by false false true = refl
  by false false false = refl

offer_signals : (p : PagedRing) (owner : ℕ) (o : Offer) (load : Load) → (offer_load p owner o load).signals ≡ accepted_signals owner (offer_load p owner o load).outcome
offer_signals p owner o (Body bytes) = fits_signals p owner o.sender (length bytes) (accepted p owner (message_of o bytes)) refl
offer_signals p owner o (Faulted n) = fits_signals p owner o.sender n (refused EFault) refl
offer_signals p owner o (RefusedLoad e) = refl

pub offer_signals_accepted : (to port : ℕ) (o : Offer) (x : Domain)
    → (offer_to_domain to port o (Some x)).signals ≡ accepted_signals to (offer_to_domain to port o (Some x)).outcome
offer_signals_accepted to port o x = by x.on where
  matched : (live : Live) (m : Option (RingKey × Ring)) → (offer_to_match live to o m).signals ≡ accepted_signals to (offer_to_match live to o m).outcome
  matched live None = refl
  matched live (Some e) = offer_signals (paged live.bytes e.1) to o o.load

  life : (l : Option Live) → (offer_to_life to port o l).signals ≡ accepted_signals to (offer_to_life to port o l).outcome
  life None = refl
  life (Some live) = matched live (match_of live.rings port o.sender)

  by : (on : Bool) → (refuse_if (not on) ConnRefused (offer_to_life to port o x.life)).signals ≡ accepted_signals to (refuse_if (not on) ConnRefused (offer_to_life to port o x.life)).outcome
  by true = life x.life
  by false = refl
