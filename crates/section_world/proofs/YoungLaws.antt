-- An action adds at most one to the generations and the serials of a state.
use Rattle.std.proofs.Common.{◌≡◌, ℕ, ◌+◌, Bool, true, false, not, nat_le, ◌&&◌, ◌==◌, if◌then◌else◌, IsTrue, List, [], ◌∷◌, length, is_none, unwrap_or, Option, Some, None, option_map, refl, sym, subst, arith}
use Rattle.std.proofs.lemmas.Bool.Decides.{nat_tests}
use Rattle.std.specs.Ordering.{nat_cmp}
use Rattle.std.specs.BTreeMap.{is_at}
use Rattle.argo_base.specs.Match.{match_of, key_of}
use Rattle.argo_base.specs.declared.errno.Errno.{Errno}
use Rattle.argo_base.specs.declared.errno.Errno.TheVariants.{Srch, Exist, NoDev, NoEnt, NoSpc, Inval, ConnRefused}
use Rattle.argo_base.specs.declared.ring_key.RingKey.{RingKey}
use Rattle.argo_model.specs.declared.scripts.Actor.{Actor}
use Rattle.argo_model.specs.declared.scripts.Actor.TheVariants.{Vcpu, Control}
use Rattle.argo_model.specs.declared.action.Action.{Action}
use Rattle.argo_model.specs.declared.action.Action.TheVariants.{Rest, Fetch, Put, Register, Unregister, Deliver, Sweep, Query, Look, Destroy, Reset, Create}
use Rattle.argo_model.specs.declared.action.Outcome.TheVariants.{Done, Fault, Answer as Answered}
use Rattle.argo_model.specs.Rules.State.{State, Domain, Live, Ring, domain_of, set_domain, life_in, is_alive, is_on, has_page, signal, signal_all, flagged, signalled, change_found, change_domain, change_life}
use Rattle.argo_model.specs.Rules.Act.{act, act_of, act_of_control, act_if_there, act_if_live, put, look}
use Rattle.argo_model.specs.Rules.Deliver.{Offer, offer, offer_to_match, offer_to_life, offer_to_domain}
use Rattle.argo_model.specs.Rules.Destroy.{destroy, reset, create, forget, live_without, gone_domain, reset_live, next_domain}
use Rattle.argo_model.specs.Rules.Effects.{Change, change_in, set_left, with_life, answered, leaving, refuse_if, lifted}
use Rattle.argo_model.specs.Rules.Limits.{most_rings}
use Rattle.argo_model.specs.Rules.Puts.{put_into}
use Rattle.argo_model.specs.Rules.Query.{query_match, query_life, query_domain, query_ring, no_answer}
use Rattle.argo_model.specs.Rules.Register.{own_ring, has_ring, are_free_for, is_single, register_allowed, register_anew, stands_so, without_ring}
use Rattle.argo_model.specs.Rules.RingBytes.{PagedRing, paged, set_paged}
use Rattle.argo_model.specs.Rules.Sweep.{sweep_found, sweep_ring, next_ring}
use Rattle.section_world.specs.Young.{is_young_life, is_young_domain, IsYoung}
use Rattle.live_domain.proofs.EntryLaws.{all_pass-lookup, all_pass-set_value, all_pass-map, all_pass-weaker}
use Rattle.live_domain.proofs.TestLaws.{both, and_also}

abbrev YoungLife : ℕ → Option Live → Type 0
YoungLife n life = IsTrue (is_young_life n life)

one_more : (a n : ℕ) → IsTrue (nat_le a n) → IsTrue (nat_le a (n + 1))
one_more a n h = grind (arith, nat_tests)

next_more : (a n : ℕ) → IsTrue (nat_le a n) → IsTrue (nat_le (a + 1) (n + 1))
next_more a n h = grind (arith, nat_tests)

life_more : (n : ℕ) (life : Option Live) → YoungLife n life → YoungLife (n + 1) life
life_more n None h = refl
life_more n (Some live) h = one_more live.next_serial n h

domain_more : (n : ℕ) (x : Domain) → IsTrue (is_young_domain n x) → IsTrue (is_young_domain (n + 1) x)
domain_more n x h =
    let h = both (nat_le x.generation n) (is_young_life n x.life) h in
    and_also (nat_le x.generation (n + 1)) (is_young_life (n + 1) x.life) (one_more x.generation n h.0) (life_more n x.life h.1)

pub young_more : (n : ℕ) (s : State) → IsYoung n s → IsYoung (n + 1) s
young_more n s young = all_pass-weaker (is_young_domain n) (is_young_domain (n + 1)) (domain_more n) s young

-- ---- domains that change

pub young_found : (n : ℕ) (s : State) (d : ℕ) (x : Domain) → domain_of s d ≡ Some x → IsYoung n s → IsTrue (is_young_domain n x)
young_found n s d x there young = all_pass-lookup (is_young_domain n) (is_at (nat_cmp d)) s x there young

set_young : (n : ℕ) (s : State) (d : ℕ) (x : Domain) → IsYoung n s → IsTrue (is_young_domain n x) → IsYoung n (set_domain s d x)
set_young n s d x young h = all_pass-set_value (is_young_domain n) (is_at (nat_cmp d)) s x young h

found_young : (n : ℕ) (s : State) (d : ℕ) (change : Domain → Domain) → ((x : Domain) → IsTrue (is_young_domain n x) → IsTrue (is_young_domain n (change x)))
    → (o : Option Domain) → domain_of s d ≡ o → IsYoung n s → IsYoung n (change_found s d change o)
found_young n s d change keeps None here young = young
found_young n s d change keeps (Some x) here young = set_young n s d (change x) young (keeps x (young_found n s d x here young))

domain_young : (n : ℕ) (s : State) (d : ℕ) (change : Domain → Domain) → ((x : Domain) → IsTrue (is_young_domain n x) → IsTrue (is_young_domain n (change x)))
    → IsYoung n s → IsYoung n (change_domain s d change)
domain_young n s d change keeps young = found_young n s d change keeps (domain_of s d) refl young

-- a change of what a domain has alive that keeps its next serial
life_young : (n : ℕ) (change : Live → Live) → ((live : Live) → (change live).next_serial ≡ live.next_serial) → (x : Domain)
    → IsTrue (is_young_domain n x) → IsTrue (is_young_domain n (change_life change x))
life_young n change same x h =
    let h = both (nat_le x.generation n) (is_young_life n x.life) h in
    and_also (nat_le x.generation n) (is_young_life n (option_map change x.life)) h.0 (by x.life h.1) where
      by : (life : Option Live) → YoungLife n life → YoungLife n (option_map change life)
      by None h = refl
      by (Some live) h = subst (λ k. IsTrue (nat_le k n)) (sym (same live)) h

signal_young : (n : ℕ) (s : State) (d : ℕ) → IsYoung n s → IsYoung n (signal s d)
signal_young n s d young = domain_young n s d signalled (life_young n flagged (λ live. refl)) young

signals_young : (n : ℕ) (ds : List ℕ) (s : State) → IsYoung n s → IsYoung n (signal_all s ds)
signals_young n [] s young = young
signals_young n (d ∷ ds) s young = signals_young n ds (signal s d) (signal_young n s d young)

with_young : (n : ℕ) (live : Live) → YoungLife n (Some live) → (x : Domain) → IsTrue (is_young_domain n x) → IsTrue (is_young_domain n (with_life live x))
with_young n live h x old = and_also (nat_le x.generation n) (nat_le live.next_serial n) (both (nat_le x.generation n) (is_young_life n x.life) old).0 h

left_young : (n : ℕ) (s : State) (d : ℕ) (left : Option Live) → YoungLife n left → IsYoung n s → IsYoung n (set_left s d left)
left_young n s d None h young = young
left_young n s d (Some live) h young = domain_young n s d (with_life live) (with_young n live h) young

change_young : (n : ℕ) (s : State) (d : ℕ) (c : Change Live) → YoungLife n c.left → IsYoung n s → IsYoung n (change_in s d c).state
change_young n s d c h young = signals_young n c.signals (set_left s d c.left) (left_young n s d c.left h young)

-- ---- changes

refused_young : (n : ℕ) (test : Bool) (e : Errno) (rest : Change Live) → YoungLife n rest.left → YoungLife n (refuse_if test e rest).left
refused_young n true e rest h = refl
refused_young n false e rest h = h

lifted_young : (n : ℕ) (live : Live) (key : RingKey) (c : Change PagedRing) → YoungLife n (Some live) → YoungLife n (lifted (set_paged live key) c).left
lifted_young n live key c h = by c.left where
  by : (o : Option PagedRing) → YoungLife n (option_map (set_paged live key) o)
  by None = refl
  by (Some p) = h

module _ (n : ℕ) (live : Live) (h : YoungLife n (Some live)) where
  put_young : (page off : ℕ) (bytes : List ℕ) → YoungLife n (put live page off bytes).left
  put_young page off bytes = by (has_page live page) where
    by : (b : Bool) → YoungLife n (if b then leaving Done (put_into live page off bytes) else answered Fault).left
    by true = h
    by false = refl

  matched_young : (to : ℕ) (o : Offer) (m : Option (RingKey × Ring)) → YoungLife n (offer_to_match live to o m).left
  matched_young to o None = refl
  matched_young to o (Some e) = lifted_young n live e.0 (offer (paged live.bytes e.1) to o) h

  queried_young : (d need : ℕ) (m : Option (RingKey × Ring)) → YoungLife n (query_match live d need m).left
  queried_young d need None = refl
  queried_young d need (Some e) = lifted_young n live e.0 (query_ring (paged live.bytes e.1) e.0 d need) h

  swept_young : (m : Option (RingKey × Ring)) → YoungLife n (sweep_found live m).left
  swept_young None = refl
  swept_young (Some e) = lifted_young n live e.0 (sweep_ring (paged live.bytes e.1)) h

  allowed_young : (key : RingKey) (len : ℕ) (pages : List ℕ) (o : Option Ring) → YoungLife (n + 1) (register_allowed live key len pages o).left
  allowed_young key len pages None = next_more live.next_serial n h
  allowed_young key len pages (Some r) = by (stands_so r len pages) where
    by : (b : Bool) → YoungLife (n + 1) (if b then answered {X = Live} Done else register_anew live key r len pages).left
    by true = refl
    by false = one_more live.next_serial n h

offered_young : (n to port : ℕ) (o : Offer) (x : Option Domain) → ((y : Domain) → x ≡ Some y → YoungLife n y.life) → YoungLife n (offer_to_domain to port o x).left
offered_young n to port o None h = refl
offered_young n to port o (Some x) h = refused_young n (not x.on) ConnRefused (offer_to_life to port o x.life) (by x.life (h x refl)) where
  by : (l : Option Live) → YoungLife n l → YoungLife n (offer_to_life to port o l).left
  by None h = refl
  by (Some live) h = matched_young n live h to o (match_of live.rings port o.sender)

asked_young : (n d port need : ℕ) (x : Option Domain) → ((y : Domain) → x ≡ Some y → YoungLife n y.life) → YoungLife n (query_domain d port need x).left
asked_young n d port need None h = refl
asked_young n d port need (Some x) h = on x.on where
  by : (l : Option Live) → YoungLife n l → YoungLife n (query_life d port need l).left
  by None h = refl
  by (Some live) h = queried_young n live h d need (match_of live.rings port d)

  on : (b : Bool) → YoungLife n (if b then query_life d port need x.life else answered {X = Live} (Answered no_answer)).left
  on true = by x.life (h x refl)
  on false = refl

life_found : (n : ℕ) (s : State) (d : ℕ) → IsYoung n s → (y : Domain) → domain_of s d ≡ Some y → YoungLife n y.life
life_found n s d young y here = (both (nat_le y.generation n) (is_young_life n y.life) (young_found n s d y here young)).1

-- ---- domains that end, are reset, or are made anew

forget_young : (n : ℕ) (s : State) (d : ℕ) → IsYoung n s → IsYoung n (forget s d)
forget_young n s d young = all_pass-map (is_young_domain n) (is_young_domain n) (change_life (live_without d)) (life_young n (live_without d) (λ live. refl)) s young

gone_young : (n : ℕ) (x : Domain) → IsTrue (is_young_domain n x) → IsTrue (is_young_domain n (gone_domain x))
gone_young n x h = and_also (nat_le x.generation n) true (both (nat_le x.generation n) (is_young_life n x.life) h).0 refl

destroy_young : (n : ℕ) (s : State) (d : ℕ) → IsYoung n s → IsYoung n (destroy s d).state
destroy_young n s d young = by (not (is_alive s d)) where
  by : (b : Bool) → IsYoung n (unwrap_or (refuse_if b Srch (leaving Done (change_domain (forget s d) d gone_domain))).left s)
  by true = young
  by false = domain_young n (forget s d) d gone_domain (gone_young n) (forget_young n s d young)

reset_young : (n : ℕ) (s : State) (d : ℕ) → IsYoung n s → IsYoung n (reset s d).state
reset_young n s d young = by (not (is_alive s d)) where
  by : (b : Bool) → IsYoung n (unwrap_or (refuse_if b Srch (leaving Done (change_domain (forget s d) d (change_life reset_live)))).left s)
  by true = young
  by false = domain_young n (forget s d) d (change_life reset_live) (life_young n reset_live (λ live. refl)) (forget_young n s d young)

next_young : (n : ℕ) (x : Domain) → IsTrue (is_young_domain n x) → IsTrue (is_young_domain (n + 1) (next_domain x))
next_young n x h =
    let g = (both (nat_le x.generation n) (is_young_life n x.life) h).0 in
    and_also (nat_le (x.generation + 1) (n + 1)) (nat_le 1 (n + 1)) (next_more x.generation n g) (grind (arith, nat_tests))

created_young : (n : ℕ) (s : State) (d : ℕ) (o : Option Domain) → domain_of s d ≡ o → IsYoung n s → IsYoung (n + 1) (change_found s d next_domain o)
created_young n s d None here young = young_more n s young
created_young n s d (Some x) here young = set_young (n + 1) s d (next_domain x) (young_more n s young) (next_young n x (young_found n s d x here young))

create_young : (n : ℕ) (s : State) (d : ℕ) → IsYoung n s → IsYoung (n + 1) (create s d).state
create_young n s d young = by (is_none (domain_of s d)) (is_alive s d) where
  by : (a b : Bool) → IsYoung (n + 1) (unwrap_or (refuse_if a Srch (refuse_if b Exist (leaving Done (change_domain s d next_domain)))).left s)
  by true b = young_more n s young
  by false true = young_more n s young
  by false false = created_young n s d (domain_of s d) refl young

-- ---- actions

control_young : (n : ℕ) (s : State) (a : Action) → IsYoung n s → IsYoung (n + 1) (act_of_control s a).state
control_young n s Rest young = young_more n s young
control_young n s (Fetch page off m) young = young_more n s young
control_young n s (Put page off bytes) young = young_more n s young
control_young n s (Register port partner len pages fail_exist) young = young_more n s young
control_young n s (Unregister port partner) young = young_more n s young
control_young n s (Deliver port to to_port kind load) young = young_more n s young
control_young n s (Sweep after) young = young_more n s young
control_young n s (Query to to_port need) young = young_more n s young
control_young n s Look young = young_more n s young
control_young n s (Destroy d) young = young_more n (destroy s d).state (destroy_young n s d young)
control_young n s (Reset d) young = young_more n (reset s d).state (reset_young n s d young)
control_young n s (Create d) young = create_young n s d young

of_young : (n : ℕ) (s : State) (d : ℕ) (x : Domain) (live : Live) (a : Action) → YoungLife n (Some live) → IsYoung n s → IsYoung (n + 1) (act_of s d x live a).state
of_young n s d x live Rest h young = young_more n s young
of_young n s d x live (Fetch page off m) h young = young_more n s young
of_young n s d x live (Put page off bytes) h young = young_more n (change_in s d (put live page off bytes)).state (change_young n s d (put live page off bytes) (put_young n live h page off bytes) young)
of_young n s d x live (Register port partner len pages fail_exist) h young =
    let key = key_of port partner in
    let rest = register_allowed live key len pages (own_ring live key) in
    let free = refuse_if (not (are_free_for live key pages)) Inval rest in
    let room = refuse_if (not (has_ring live key) && nat_le most_rings (length live.rings)) NoSpc free in
    let own = refuse_if (has_ring live key && fail_exist) Exist room in
    let off = refuse_if (is_single partner && not (is_on s partner)) ConnRefused own in
    let on = refuse_if (not x.on) NoDev off in
    let more = n + 1 in
    change_young more s d (refuse_if (is_single partner && not (is_alive s partner)) Srch on)
    (refused_young more (is_single partner && not (is_alive s partner)) Srch on
    (refused_young more (not x.on) NoDev off
    (refused_young more (is_single partner && not (is_on s partner)) ConnRefused own
    (refused_young more (has_ring live key && fail_exist) Exist room
    (refused_young more (not (has_ring live key) && nat_le most_rings (length live.rings)) NoSpc free
    (refused_young more (not (are_free_for live key pages)) Inval rest (allowed_young n live h key len pages (own_ring live key))))))))
    (young_more n s young)
of_young n s d x live (Unregister port partner) h young =
    let key = key_of port partner in
    let gone : Change Live = leaving Done (without_ring live key) in
    let rest = refuse_if (not (has_ring live key)) NoEnt gone in
    let c = refuse_if (not x.on) NoDev rest in
    young_more n (change_in s d c).state (change_young n s d c (refused_young n (not x.on) NoDev rest (refused_young n (not (has_ring live key)) NoEnt gone h)) young)
of_young n s d x live (Deliver port to to_port kind load) h young =
    let o : Offer = record { sender = d; port = port; kind = kind; load = load } in
    let rest = offer_to_domain to to_port o (domain_of s to) in
    let on = refuse_if (not x.on) NoDev rest in
    let c = refuse_if (not (is_alive s to)) Srch on in
    young_more n (change_in s to c).state
    (change_young n s to c (refused_young n (not (is_alive s to)) Srch on (refused_young n (not x.on) NoDev rest (offered_young n to to_port o (domain_of s to) (life_found n s to young)))) young)
of_young n s d x live (Sweep after) h young =
    let rest = sweep_found live (next_ring after live.rings) in
    let c = refuse_if (not x.on) NoDev rest in
    young_more n (change_in s d c).state (change_young n s d c (refused_young n (not x.on) NoDev rest (swept_young n live h (next_ring after live.rings))) young)
of_young n s d x live (Query to to_port need) h young =
    let rest = query_domain d to_port need (domain_of s to) in
    let c = refuse_if (not x.on) NoDev rest in
    young_more n (change_in s to c).state (change_young n s to c (refused_young n (not x.on) NoDev rest (asked_young n d to_port need (domain_of s to) (life_found n s to young))) young)
of_young n s d x live Look h young = young_more n (change_in s d (look live)).state (change_young n s d (look live) h young)
of_young n s d x live (Destroy e) h young = young_more n (destroy s e).state (destroy_young n s e young)
of_young n s d x live (Reset e) h young = young_more n (reset s e).state (reset_young n s e young)
of_young n s d x live (Create e) h young = create_young n s e young

in_young : (n g : ℕ) (x : Domain) → YoungLife n x.life → YoungLife n (life_in g x)
in_young n g x h = by (x.generation == g) where
  by : (b : Bool) → YoungLife n (if b then x.life else None)
  by true = h
  by false = refl

pub act_young : (n : ℕ) (actor : Actor) (a : Action) (s : State) → IsYoung n s → IsYoung (n + 1) (act actor a s).state
act_young n Control a s young = control_young n s a young
act_young n (Vcpu d g) a s young = there (domain_of s d) refl where
  lives : (x : Domain) (life : Option Live) → YoungLife n life → IsYoung (n + 1) (act_if_live s d x life a).state
  lives x None h = young_more n s young
  lives x (Some live) h = of_young n s d x live a h young

  there : (o : Option Domain) → domain_of s d ≡ o → IsYoung (n + 1) (act_if_there s d g o a).state
  there None here = young_more n s young
  there (Some x) here = lives x (life_in g x) (in_young n g x (life_found n s d young x here))
