-- Every outcome of an action is one that the action can have.
use Rattle.std.proofs.Common.{◌≡◌, ℕ, ◌+◌, ◌*◌, ◌≤◌, Bool, true, false, if◌then◌else◌, ◌==◌, ◌&&◌, not, nat_lt, nat_le, List, [], ◌∷◌, length, take, drop, filter, Option, Some, None, All, is_none, refl, arith, length-take, length-drop}
use Rattle.std.specs.Prelude.{IsTrue, IfSome}
use Rattle.std.specs.List.{best_of}
use Rattle.std.proofs.lemmas.List.Elements.{filter_passes, All-head, All-tail}
use Rattle.std.proofs.lemmas.Bool.{false≢true}
use Rattle.std.proofs.lemmas.Bool.Decides.{nat_tests}
use Rattle.argo_base.specs.declared.errno.Errno.{Errno}
use Rattle.argo_base.specs.declared.errno.Errno.TheVariants.{Perm, NoEnt, Srch, Again, Acces, Fault as efault, Busy, Exist, NoDev, Inval, NoSpc, MsgSize, OpNotSupp, ConnRefused}
use Rattle.argo_base.specs.declared.ring_key.RingKey.{RingKey}
use Rattle.argo_base.specs.Match.{key_of, match_of}
use Rattle.argo_base.specs.Notices.{is_busy}
use Rattle.argo_base.specs.Slots.{fits, is_too_big}
use Rattle.argo_model.specs.declared.scripts.Actor.{Actor}
use Rattle.argo_model.specs.declared.scripts.Actor.TheVariants.{Vcpu, Control}
use Rattle.argo_model.specs.declared.action.Action.{Action}
use Rattle.argo_model.specs.declared.action.Action.TheVariants.{Rest, Fetch, Put, Register, Unregister, Deliver, Sweep, Query, Look, Destroy, Reset, Create}
use Rattle.argo_model.specs.declared.action.Load.{Load}
use Rattle.argo_model.specs.declared.action.Load.TheVariants.{Body, Faulted, Refused as RefusedLoad}
use Rattle.argo_model.specs.declared.action.Outcome.{Outcome}
use Rattle.argo_model.specs.declared.action.Outcome.TheVariants.{Done, Bytes, Fault, Refused, Answer as Answered}
use Rattle.argo_model.specs.Rules.State.{State, Domain, Live, Ring, domain_of, life_in, has_page, is_alive, is_on}
use Rattle.argo_model.specs.Rules.Limits.{most_rings}
use Rattle.argo_model.specs.Rules.Effects.{Change, answered, refused, refuse_if}
use Rattle.argo_model.specs.Rules.RingBytes.{PagedRing, paged, free}
use Rattle.argo_model.specs.Rules.Register.{register, register_allowed, register_anew, stands_so, own_ring, has_ring, is_single, are_free_for}
use Rattle.argo_model.specs.Rules.Deliver.{Offer, offer_load, offer_to_match, offer_to_life, offer_to_domain, accepted, if_it_fits, wait_for_room, message_of}
use Rattle.argo_model.specs.Rules.Sweep.{sweep_found, next_ring, least_serial}
use Rattle.argo_model.specs.Rules.Query.{query_match, query_life, query_domain, no_answer}
use Rattle.argo_model.specs.Rules.Destroy.{destroy, reset, create}
use Rattle.argo_model.specs.Rules.Act.{act, act_of, act_if_live, act_if_there, act_of_control}
use Rattle.argo_model.specs.Rules.Fit.{is_fit, is_fit_for, needs_no_caller}
use Rattle.argo_model.specs.Rules.Outcomes.{can_have, is_delivered}
use Rattle.live_domain.proofs.TestLaws.{both}
use Rattle.live_domain.proofs.TestLaws.{le_from}

-- a fetch lies inside a page
abbrev FetchesInPage : Action → Type 0
FetchesInPage (Fetch page off n) = off + n ≤ 4096
FetchesInPage a = Unit {0}

fetches : (a : Action) → IsTrue (is_fit a) → FetchesInPage a
fetches Rest fit = tt
fetches (Fetch page off n) fit = le_from (off + n) 4096 fit
fetches (Put page off bytes) fit = tt
fetches (Register port partner len pages fail_exist) fit = tt
fetches (Unregister port partner) fit = tt
fetches (Deliver port to to_port kind load) fit = tt
fetches (Sweep after) fit = tt
fetches (Query to to_port need) fit = tt
fetches Look fit = tt
fetches (Destroy dom) fit = tt
fetches (Reset dom) fit = tt
fetches (Create dom) fit = tt

-- the outcome is one that the action can have
record Can (a : Action) (o : Outcome) : Type 0 where
  is : IsTrue (can_have a o)

module _ {X : Type 0} (a : Action) where
  -- a chain of refusals keeps what each of its ends has
  can_refuse : (test : Bool) (e : Errno) (rest : Change X) → Can a (Refused e) → Can a rest.outcome → Can a (refuse_if {X = X} test e rest).outcome
  can_refuse true e rest p q = p
  can_refuse false e rest p q = q

  can_if : (test : Bool) (x y : Change X) → Can a x.outcome → Can a y.outcome → Can a (if test then x else y).outcome
  can_if true x y p q = p
  can_if false x y p q = q

can_fetch : (live : Live) (page off n : ℕ) (test : Bool) → has_page live page ≡ test → off + n ≤ 4096
    → Can (Fetch page off n) (if test then Bytes (take n (drop (4096 * page + off) live.bytes)) else Fault)
can_fetch live page off n false is inside = record { is = refl }
can_fetch live page off n true is inside =
    let l = length-take n (drop (4096 * page + off) live.bytes) in
    let d = length-drop (4096 * page + off) live.bytes in
    record { is = grind (arith, nat_tests) }

better : {X : Type 0} (P : X → Type 0) (test : Bool) (x a : X) → P x → P a → P (if test then x else a)
better P true x a p q = p
better P false x a p q = q

-- the best of some elements is one of them
best_keeps : {X : Type 0} (P : X → Type 0) (beats : X → X → Bool) (a : X) (xs : List X) → P a → All P xs → P (best_of beats a xs)
best_keeps P beats a [] p all = p
best_keeps P beats a (x ∷ xs) p all = best_keeps P beats (if beats x a then x else a) xs (better P (beats x a) x a (All-head P x xs all) p) (All-tail P x xs all)

least_keeps : (P : RingKey × Ring → Type 0) (es : List (RingKey × Ring)) → All P es → IfSome (least_serial es) P
least_keeps P [] all = tt
least_keeps P (e ∷ es) all = best_keeps P (λ a b. nat_lt a.1.serial b.1.serial) e es (All-head P e es all) (All-tail P e es all)

-- the ring that is swept next has a serial above
next_is_above : (after : ℕ) (rings : List (RingKey × Ring)) → IfSome (next_ring after rings) (λ e. IsTrue (nat_lt after e.1.serial))
next_is_above after rings =
    least_keeps (λ e. IsTrue (nat_lt after e.1.serial)) (filter (λ e. nat_lt after e.1.serial) rings) (filter_passes (λ e. nat_lt after e.1.serial) rings)

same_size : (n : ℕ) → (n == n) ≡ true
same_size n = grind (arith, nat_tests)

own_error_is : (e : Errno) → IsTrue (is_delivered (RefusedLoad e) (Refused e))
own_error_is Perm = refl
own_error_is NoEnt = refl
own_error_is Srch = refl
own_error_is Again = refl
own_error_is Acces = refl
own_error_is efault = refl
own_error_is Busy = refl
own_error_is Exist = refl
own_error_is NoDev = refl
own_error_is Inval = refl
own_error_is NoSpc = refl
own_error_is MsgSize = refl
own_error_is OpNotSupp = refl
own_error_is ConnRefused = refl

module _ (port to to_port kind : ℕ) where
  -- a body is refused at the ring for a reason that the rules name, or the delivery goes on
  can_fit : (load : Load) (p : PagedRing) (d n : ℕ) (rest : Change PagedRing) → Can (Deliver port to to_port kind load) rest.outcome
      → Can (Deliver port to to_port kind load) (if_it_fits p d n rest).outcome
  can_fit load p d n rest can =
      let a = Deliver port to to_port kind load in
      can_refuse a (is_too_big p.ring.len n) MsgSize _ (record { is = refl }) (
      can_if a (fits (free p) n) rest (wait_for_room p d n) can (
      can_refuse a (is_busy p.ring.notices d) Busy _ (record { is = refl }) (record { is = refl })))

  can_offer : (load : Load) (p : PagedRing) (owner : ℕ) (o : Offer) → Can (Deliver port to to_port kind load) (offer_load p owner o load).outcome
  can_offer (Body bytes) p owner o =
      can_fit (Body bytes) p o.sender (length bytes) (accepted p owner (message_of o bytes)) (record { is = same_size (length bytes) })
  can_offer (Faulted n) p owner o = can_fit (Faulted n) p o.sender n (refused efault) (record { is = refl })
  can_offer (RefusedLoad e) p owner o = record { is = own_error_is e }

  can_match : (load : Load) (live : Live) (o : Offer) (m : Option (RingKey × Ring)) → o.load ≡ load → Can (Deliver port to to_port kind load) (offer_to_match live to o m).outcome
  can_match load live o None is = record { is = refl }
  can_match load live o (Some e) is = rw is (can_offer load (paged live.bytes e.1) to o)

  can_life : (load : Load) (o : Offer) (life : Option Live) → o.load ≡ load → Can (Deliver port to to_port kind load) (offer_to_life to to_port o life).outcome
  can_life load o None is = record { is = refl }
  can_life load o (Some live) is = can_match load live o (match_of live.rings to_port o.sender) is

  can_domain : (load : Load) (o : Offer) (x : Option Domain) → o.load ≡ load → Can (Deliver port to to_port kind load) (offer_to_domain to to_port o x).outcome
  can_domain load o None is = record { is = refl }
  can_domain load o (Some x) is =
      can_refuse (Deliver port to to_port kind load) (not x.on) ConnRefused (offer_to_life to to_port o x.life) (record { is = refl }) (can_life load o x.life is)

module _ (a : ℕ) (to_port need : ℕ) where
  can_query_match : (to : ℕ) (live : Live) (m : Option (RingKey × Ring)) → Can (Query to to_port need) (query_match live a need m).outcome
  can_query_match to live None = record { is = refl }
  can_query_match to live (Some e) = record { is = refl }

  can_query_life : (to : ℕ) (life : Option Live) → Can (Query to to_port need) (query_life a to_port need life).outcome
  can_query_life to None = record { is = refl }
  can_query_life to (Some live) = can_query_match to live (match_of live.rings to_port a)

  can_query_domain : (to : ℕ) (x : Option Domain) → Can (Query to to_port need) (query_domain a to_port need x).outcome
  can_query_domain to None = record { is = refl }
  can_query_domain to (Some x) =
      can_if (Query to to_port need) x.on (query_life a to_port need x.life) (answered (Answered no_answer)) (can_query_life to x.life) (record { is = refl })

can_register_allowed : (live : Live) (port partner len : ℕ) (pages : List ℕ) (fail_exist : Bool) (r : Option Ring)
    → Can (Register port partner len pages fail_exist) (register_allowed live (key_of port partner) len pages r).outcome
can_register_allowed live port partner len pages fail_exist None = record { is = refl }
can_register_allowed live port partner len pages fail_exist (Some r) =
    can_if (Register port partner len pages fail_exist) (stands_so r len pages) (answered Done) (register_anew live (key_of port partner) r len pages)
    (record { is = refl }) (record { is = refl })

can_register : (s : State) (d : ℕ) (x : Domain) (live : Live) (port partner len : ℕ) (pages : List ℕ) (fail_exist : Bool)
    → Can (Register port partner len pages fail_exist) (register s d x live (key_of port partner) len pages fail_exist).outcome
can_register s d x live port partner len pages fail_exist =
    let a = Register port partner len pages fail_exist in
    let key = key_of port partner in
    can_refuse a (is_single partner && not (is_alive s partner)) Srch _ (record { is = refl }) (
    can_refuse a (not x.on) NoDev _ (record { is = refl }) (
    can_refuse a (is_single partner && not (is_on s partner)) ConnRefused _ (record { is = refl }) (
    can_refuse a (has_ring live key && fail_exist) Exist _ (record { is = refl }) (
    can_refuse a (not (has_ring live key) && nat_le most_rings (length live.rings)) NoSpc _ (record { is = refl }) (
    can_refuse a (not (are_free_for live key pages)) Inval _ (record { is = refl }) (
    can_register_allowed live port partner len pages fail_exist (own_ring live key)))))))

can_sweep_found : (after : ℕ) (live : Live) (e : Option (RingKey × Ring)) → (IfSome e (λ e. IsTrue (nat_lt after e.1.serial))) → Can (Sweep after) (sweep_found live e).outcome
can_sweep_found after live None above = record { is = refl }
can_sweep_found after live (Some e) above = record { is = above }

-- an action of the control section
can_destroy : (s : State) (dom : ℕ) → Can (Destroy dom) (destroy s dom).outcome
can_destroy s dom = can_refuse {X = State} (Destroy dom) (not (is_alive s dom)) Srch _ (record { is = refl }) (record { is = refl })

can_reset : (s : State) (dom : ℕ) → Can (Reset dom) (reset s dom).outcome
can_reset s dom = can_refuse {X = State} (Reset dom) (not (is_alive s dom)) Srch _ (record { is = refl }) (record { is = refl })

can_create : (s : State) (dom : ℕ) → Can (Create dom) (create s dom).outcome
can_create s dom =
    can_refuse {X = State} (Create dom) (is_none (domain_of s dom)) Srch _ (record { is = refl }) (
    can_refuse {X = State} (Create dom) (is_alive s dom) Exist _ (record { is = refl }) (record { is = refl }))

-- an action of a caller that is alive
can_act_of : (s : State) (d : ℕ) (x : Domain) (live : Live) (a : Action) → FetchesInPage a → Can a (act_of s d x live a).outcome
can_act_of s d x live Rest inside = record { is = refl }
can_act_of s d x live (Fetch page off n) inside = can_fetch live page off n (has_page live page) refl inside
can_act_of s d x live (Put page off bytes) inside = can_if {X = Live} (Put page off bytes) (has_page live page) _ _ (record { is = refl }) (record { is = refl })
can_act_of s d x live (Register port partner len pages fail_exist) inside = can_register s d x live port partner len pages fail_exist
can_act_of s d x live (Unregister port partner) inside =
    let a = Unregister port partner in
    can_refuse {X = Live} a (not x.on) NoDev _ (record { is = refl }) (
    can_refuse {X = Live} a (not (has_ring live (key_of port partner))) NoEnt _ (record { is = refl }) (record { is = refl }))
can_act_of s d x live (Deliver port to to_port kind load) inside =
    let a = Deliver port to to_port kind load in
    can_refuse {X = Live} a (not (is_alive s to)) Srch _ (record { is = refl }) (
    can_refuse {X = Live} a (not x.on) NoDev _ (record { is = refl }) (
    can_domain port to to_port kind load (record { sender = d; port = port; kind = kind; load = load }) (domain_of s to) refl))
can_act_of s d x live (Sweep after) inside =
    can_refuse {X = Live} (Sweep after) (not x.on) NoDev _ (record { is = refl }) (can_sweep_found after live (next_ring after live.rings) (next_is_above after live.rings))
can_act_of s d x live (Query to to_port need) inside =
    can_refuse {X = Live} (Query to to_port need) (not x.on) NoDev _ (record { is = refl }) (can_query_domain d to_port need to (domain_of s to))
can_act_of s d x live Look inside = record { is = refl }
can_act_of s d x live (Destroy dom) inside = can_destroy s dom
can_act_of s d x live (Reset dom) inside = can_reset s dom
can_act_of s d x live (Create dom) inside = can_create s dom

can_act_if_live : (s : State) (d : ℕ) (x : Domain) (live : Option Live) (a : Action) → FetchesInPage a → Can a (act_if_live s d x live a).outcome
can_act_if_live s d x None a inside = record { is = refl }
can_act_if_live s d x (Some live) a inside = can_act_of s d x live a inside

can_act_if_there : (s : State) (d generation : ℕ) (x : Option Domain) (a : Action) → FetchesInPage a → Can a (act_if_there s d generation x a).outcome
can_act_if_there s d generation None a inside = record { is = refl }
can_act_if_there s d generation (Some x) a inside = can_act_if_live s d x (life_in generation x) a inside

can_control : (s : State) (a : Action) → IsTrue (needs_no_caller a) → Can a (act_of_control s a).outcome
can_control s Rest fit = record { is = refl }
can_control s (Fetch page off n) fit = absurd (false≢true fit)
can_control s (Put page off bytes) fit = absurd (false≢true fit)
can_control s (Register port partner len pages fail_exist) fit = absurd (false≢true fit)
can_control s (Unregister port partner) fit = absurd (false≢true fit)
can_control s (Deliver port to to_port kind load) fit = absurd (false≢true fit)
can_control s (Sweep after) fit = absurd (false≢true fit)
can_control s (Query to to_port need) fit = absurd (false≢true fit)
can_control s Look fit = absurd (false≢true fit)
can_control s (Destroy dom) fit = can_destroy s dom
can_control s (Reset dom) fit = can_reset s dom
can_control s (Create dom) fit = can_create s dom

-- every outcome of an action that its section may perform is one that the action can have
pub act_can_have : (s : State) (actor : Actor) (a : Action) → IsTrue (is_fit_for actor a) → IsTrue (can_have a (act actor a s).outcome)
act_can_have s (Vcpu d generation) a fit = (can_act_if_there s d generation (domain_of s d) a (fetches a fit)).is
act_can_have s Control a fit = (can_control s a (both (is_fit a) (needs_no_caller a) fit).1).is
