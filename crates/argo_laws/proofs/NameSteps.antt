-- Laws of what a step leaves of every domain: its generation rises or stays, and while it stays its serials rise and its rings are
-- those that stood, or new ones.
use Rattle.std.proofs.Common.{◌≡◌, ◌≢◌, ℕ, ◌<◌, Bool, true, false, not, ◌&&◌, if◌then◌else◌, ◌⊎◌, List, [], ◌∷◌, is_none, Option, Some, None, option_map, ⊎_elim, inl, inr, refl, sym, ap, ◌∙◌, subst, arith}
use Rattle.std.specs.Prelude.{IfSome}
use Rattle.std.proofs.lemmas.Bool.{cases_eq}
use Rattle.argo_base.specs.declared.errno.Errno.{Errno}
use Rattle.argo_base.specs.declared.errno.Errno.TheVariants.{Srch, NoDev, ConnRefused, Exist}
use Rattle.argo_base.specs.Match.{key_of}
use Rattle.argo_model.specs.declared.action.Action.{Action}
use Rattle.argo_model.specs.declared.action.Action.TheVariants.{Rest, Fetch, Put, Register, Unregister, Deliver, Sweep, Query, Look, Destroy, Reset, Create}
use Rattle.argo_model.specs.declared.scripts.Actor.{Actor}
use Rattle.argo_model.specs.declared.scripts.Actor.TheVariants.{Vcpu, Control}
use Rattle.argo_model.specs.Rules.Act.{put, look, act, act_of, act_if_live, act_if_there, act_of_control}
use Rattle.argo_model.specs.Rules.Deliver.{Offer, offer_to_life, offer_to_domain}
use Rattle.argo_model.specs.Rules.Destroy.{live_without, forget, gone_domain, reset_live, next_domain, change_all, destroy, reset, create}
use Rattle.argo_model.specs.Rules.Effects.{Change, answered, leaving, refuse_if, change_in, set_left, with_life}
use Rattle.argo_model.specs.Rules.Query.{query_life, query_domain, no_answer}
use Rattle.argo_model.specs.Rules.Register.{is_single, register_own, unregister_own}
use Rattle.argo_model.specs.Rules.State.{State, Domain, Live, domain_of, life_in, is_alive, is_on, change_domain, change_life, flagged, signalled, signal, signal_all}
use Rattle.argo_model.specs.Rules.Sweep.{sweep_found, next_ring}
use Rattle.argo_model.specs.declared.action.Outcome.TheVariants.{Done, Answer as Answered}
use Rattle.state_laws.specs.Valid.{IsLive, IsValid}
use Rattle.state_laws.proofs.Domains.{get_map, fit_found}
use Rattle.argo_laws.proofs.AllSteps.{lives}
use Rattle.argo_laws.proofs.Changes.{Found, domain_else, domain_here}
use Rattle.argo_laws.proofs.Grown.{Grown, Grows, grown_self, grown_without, grows_look, grows_put, grows_unregister, grows_register, grows_sweep, grows_query, grows_offer}

-- what a domain has after a step of what it had, in one generation
abbrev pub LifeLater : Option Live → Option Live → Type 0
LifeLater None None = Unit {0}
LifeLater None (Some new) = ⊥
LifeLater (Some old) None = Unit {0}
LifeLater (Some old) (Some new) = Grown old new

abbrev pub DomainLater : Domain → Domain → Type 0
DomainLater x y = (x.generation < y.generation) ⊎ ((x.generation ≡ y.generation) × LifeLater x.life y.life)

abbrev pub Later : Option Domain → Option Domain → Type 0
Later None None = Unit {0}
Later None (Some y) = ⊥
Later (Some x) None = ⊥
Later (Some x) (Some y) = DomainLater x y

life_self : (l : Option Live) → LifeLater l l
life_self None = tt
life_self (Some live) = grown_self live

pub later_self : (o : Option Domain) → Later o o
later_self None = tt
later_self (Some x) = inr (refl, life_self x.life)

-- a domain that changes
later_map : (f : Domain → Domain) → ((x : Domain) → DomainLater x (f x)) → (o : Option Domain) → Later o (option_map f o)
later_map f keeps None = tt
later_map f keeps (Some x) = keeps x

-- and is signalled
later_signalled : (o p : Option Domain) → Later o p → Later o (option_map signalled p)
later_signalled None None h = h
later_signalled None (Some y) h = h
later_signalled (Some x) None h = h
later_signalled (Some x) (Some y) h = ⊎_elim (λ up. inl up) (λ same. inr (same.0, life x.life y.life same.1)) h where
  life : (l m : Option Live) → LifeLater l m → LifeLater l (option_map flagged m)
  life None None h = h
  life None (Some new) h = h
  life (Some old) None h = h
  life (Some old) (Some new) h = record { serials = h.serials; rings = h.rings }

signals_later : (o : Option Domain) (ds : List ℕ) (t : State) (q : ℕ) → Later o (domain_of t q) → Later o (domain_of (signal_all t ds) q)
signals_later o [] t q h = h
signals_later o (d ∷ ds) t q h = signals_later o ds (signal t d) q (⊎_elim here (λ apart. subst (Later o) (sym (domain_else t d q signalled apart)) h) (cases_eq d q)) where
  here : d ≡ q → Later o (domain_of (signal t d) q)
  here same =
      subst (λ k. Later o (domain_of (signal t d) k)) same
      (subst (Later o) (sym (domain_here t d signalled)) (later_signalled o (domain_of t d) (subst (λ k. Later o (domain_of t k)) (sym same) h)))

-- every domain after an act is as it was, or later
abbrev pub AllLater : State → State → Type 0
AllLater s t = (q : ℕ) → Later (domain_of s q) (domain_of t q)

pub all_same : (s : State) → AllLater s s
all_same s q = later_self (domain_of s q)

some_domain : (x y : Domain) → Some x ≡ Some y → x ≡ y
some_domain x y h = cc

-- what one domain has is changed
in_later : (s : State) (d : ℕ) (y : Domain) (old : Live) → Found s d y old → (c : Change Live) → Grows old c → AllLater s (change_in s d c).state
in_later s d y old f c g q = signals_later (domain_of s q) c.signals (set_left s d c.left) q (left c.left g.left) where
  left : (l : Option Live) → IfSome l (Grown old) → Later (domain_of s q) (domain_of (set_left s d l) q)
  left None h = later_self (domain_of s q)
  left (Some new) h = ⊎_elim here (λ apart. subst (Later (domain_of s q)) (sym (domain_else s d q (with_life new) apart)) (later_self (domain_of s q))) (cases_eq d q) where
    now : LifeLater y.life (Some new)
    now = subst (λ (l : Option Live). LifeLater l (Some new)) (sym f.life) h

    at_d : Later (domain_of s d) (option_map (with_life new) (domain_of s d))
    at_d = subst (λ (o : Option Domain). Later o (option_map (with_life new) o)) (sym f.here) (inr (refl, now))

    here : d ≡ q → Later (domain_of s q) (domain_of (change_domain s d (with_life new)) q)
    here same =
        subst (λ k. Later (domain_of s k) (domain_of (change_domain s d (with_life new)) k)) same
        (subst (Later (domain_of s d)) (sym (domain_here s d (with_life new))) at_d)

-- where it has nothing alive, nothing changes
unchanged : (s : State) (d : ℕ) (c : Change Live) → c.left ≡ None → c.signals ≡ [] → AllLater s (change_in s d c).state
unchanged s d c stays quiet q = subst (λ (ds : List ℕ). Later (domain_of s q) (domain_of (signal_all (set_left s d c.left) ds) q)) (sym quiet)
    (subst (λ (l : Option Live). Later (domain_of s q) (domain_of (set_left s d l) q)) (sym stays) (later_self (domain_of s q)))

-- a refusal in front of a change
in_if : (s : State) (d : ℕ) (test : Bool) (e : Errno) (rest : Change Live) → AllLater s (change_in s d rest).state → AllLater s (change_in s d (refuse_if test e rest)).state
in_if s d true e rest h = all_same s
in_if s d false e rest h = h

-- ---- destroyed, reset, created

life_gone : (l : Option Live) → LifeLater l None
life_gone None = tt
life_gone (Some live) = tt

life_without : (d : ℕ) (l : Option Live) → LifeLater l (option_map (live_without d) l)
life_without d None = tt
life_without d (Some live) = grown_without d live

life_reset : (d : ℕ) (l : Option Live) → LifeLater l (option_map reset_live (option_map (live_without d) l))
life_reset d None = tt
life_reset d (Some live) = record { serials = omega arith; rings = tt }

forgot_later : (s : State) (d : ℕ) (last : Domain → Domain) → ((x : Domain) → DomainLater x (last (change_life (live_without d) x))) → AllLater s (change_domain (forget s d) d last)
forgot_later s d last keeps q = ⊎_elim here apart (cases_eq d q) where
  apart : d ≢ q → Later (domain_of s q) (domain_of (change_domain (forget s d) d last) q)
  apart other =
      subst (Later (domain_of s q)) (sym (domain_else (forget s d) d q last other ∙ get_map (change_life (live_without d)) q s))
      (later_map (change_life (live_without d)) (λ x. inr (refl, life_without d x.life)) (domain_of s q))

  twice : (o : Option Domain) → Later o (option_map last (option_map (change_life (live_without d)) o))
  twice None = tt
  twice (Some x) = keeps x

  here : d ≡ q → Later (domain_of s q) (domain_of (change_domain (forget s d) d last) q)
  here same =
      subst (λ k. Later (domain_of s k) (domain_of (change_domain (forget s d) d last) k)) same
      (subst (Later (domain_of s d)) (sym (domain_here (forget s d) d last ∙ ap (option_map last) (get_map (change_life (live_without d)) d s))) (twice (domain_of s d)))

destroy_later : (s : State) (d : ℕ) → AllLater s (destroy s d).state
destroy_later s d = by (not (is_alive s d)) where
  by : (b : Bool) → AllLater s (change_all s (refuse_if b Srch (leaving Done (change_domain (forget s d) d gone_domain)))).state
  by true = all_same s
  by false = forgot_later s d gone_domain (λ x. inr (refl, life_gone x.life))

reset_later : (s : State) (d : ℕ) → AllLater s (reset s d).state
reset_later s d = by (not (is_alive s d)) where
  by : (b : Bool) → AllLater s (change_all s (refuse_if b Srch (leaving Done (change_domain (forget s d) d (change_life reset_live))))).state
  by true = all_same s
  by false = forgot_later s d (change_life reset_live) (λ x. inr (refl, life_reset d x.life))

create_later : (s : State) (d : ℕ) → AllLater s (create s d).state
create_later s d = by (is_none (domain_of s d)) (is_alive s d) where
  made : AllLater s (change_domain s d next_domain)
  made q = ⊎_elim here (λ apart. subst (Later (domain_of s q)) (sym (domain_else s d q next_domain apart)) (later_self (domain_of s q))) (cases_eq d q) where
    here : d ≡ q → Later (domain_of s q) (domain_of (change_domain s d next_domain) q)
    here same =
        subst (λ k. Later (domain_of s k) (domain_of (change_domain s d next_domain) k)) same
        (subst (Later (domain_of s d)) (sym (domain_here s d next_domain)) (later_map next_domain (λ x. inl (omega arith)) (domain_of s d)))

  by : (a b : Bool) → AllLater s (change_all s (refuse_if a Srch (refuse_if b Exist (leaving Done (change_domain s d next_domain))))).state
  by true b = all_same s
  by false true = all_same s
  by false false = made

-- ---- the acts

module _ (s : State) (valid : IsValid s) where
  -- what others have
  offered : (to port : ℕ) (o : Offer) (y : Option Domain) → domain_of s to ≡ y → AllLater s (change_in s to (offer_to_domain to port o y)).state
  offered to port o None here = all_same s
  offered to port o (Some y) here = in_if s to (not y.on) ConnRefused (offer_to_life to port o y.life) (by y.life refl) where
    by : (l : Option Live) → y.life ≡ l → AllLater s (change_in s to (offer_to_life to port o l)).state
    by None is = all_same s
    by (Some live) is = in_later s to y live (record { here = here; life = is }) (offer_to_life to port o (Some live)) (grows_offer live to port o)

  asked : (to port d need : ℕ) (y : Option Domain) → domain_of s to ≡ y → AllLater s (change_in s to (query_domain d port need y)).state
  asked to port d need None here = all_same s
  asked to port d need (Some y) here = on y.on where
    by : (l : Option Live) → y.life ≡ l → AllLater s (change_in s to (query_life d port need l)).state
    by None is = all_same s
    by (Some live) is = in_later s to y live (record { here = here; life = is }) (query_life d port need (Some live)) (grows_query live port d need)

    on : (b : Bool) → AllLater s (change_in s to (if b then query_life d port need y.life else answered (Answered no_answer))).state
    on true = by y.life refl
    on false = all_same s

  module _ (d : ℕ) (x : Domain) (live : Live) (f : Found s d x live) (h : IsLive (is_alive s) live) where
    of_domain : (a : Action) → AllLater s (act_of s d x live a).state
    of_domain Rest = all_same s
    of_domain (Fetch page off n) = all_same s
    of_domain (Put page off bytes) = in_later s d x live f (put live page off bytes) (grows_put live page off bytes)
    of_domain (Register port partner len pages fail_exist) =
        let own = register_own live (key_of port partner) len pages fail_exist in
        let off = refuse_if (is_single partner && not (is_on s partner)) ConnRefused own in
        let on = refuse_if (not x.on) NoDev off in
        in_if s d (is_single partner && not (is_alive s partner)) Srch on (in_if s d (not x.on) NoDev off (in_if s d (is_single partner && not (is_on s partner)) ConnRefused own
        (in_later s d x live f own (grows_register live (key_of port partner) len pages fail_exist))))
    of_domain (Unregister port partner) = in_later s d x live f (unregister_own x live (key_of port partner)) (grows_unregister live x (key_of port partner))
    of_domain (Deliver port to to_port kind load) =
        let o : Offer = record { sender = d; port = port; kind = kind; load = load } in
        let rest = offer_to_domain to to_port o (domain_of s to) in
        in_if s to (not (is_alive s to)) Srch (refuse_if (not x.on) NoDev rest) (in_if s to (not x.on) NoDev rest (offered to to_port o (domain_of s to) refl))
    of_domain (Sweep after) =
        let found = sweep_found live (next_ring after live.rings) in
        in_if s d (not x.on) NoDev found (in_later s d x live f found (grows_sweep live h.apart after))
    of_domain (Query to to_port need) =
        let rest = query_domain d to_port need (domain_of s to) in
        in_if s to (not x.on) NoDev rest (asked to to_port d need (domain_of s to) refl)
    of_domain Look = in_later s d x live f (look live) (grows_look live)
    of_domain (Destroy e) = destroy_later s e
    of_domain (Reset e) = reset_later s e
    of_domain (Create e) = create_later s e

  control : (a : Action) → AllLater s (act_of_control s a).state
  control Rest = all_same s
  control (Fetch page off n) = all_same s
  control (Put page off bytes) = all_same s
  control (Register port partner len pages fail_exist) = all_same s
  control (Unregister port partner) = all_same s
  control (Deliver port to to_port kind load) = all_same s
  control (Sweep after) = all_same s
  control (Query to to_port need) = all_same s
  control Look = all_same s
  control (Destroy e) = destroy_later s e
  control (Reset e) = reset_later s e
  control (Create e) = create_later s e

  pub act_later : (actor : Actor) (a : Action) → AllLater s (act actor a s).state
  act_later Control a = control a
  act_later (Vcpu d g) a = there (domain_of s d) refl where
    caller : (x : Domain) → domain_of s d ≡ Some x → (l : Option Live) → life_in g x ≡ l → AllLater s (act_if_live s d x l a).state
    caller x here None is = all_same s
    caller x here (Some live) is =
        let l = lives g x live is in
        let fit : IfSome (Some live) (IsLive (is_alive s)) = subst (λ (o : Option Live). IfSome o (IsLive (is_alive s))) l.life (fit_found (is_alive s) s d x here valid.lives) in
        of_domain d x live (record { here = here; life = l.life }) fit a

    there : (o : Option Domain) → domain_of s d ≡ o → AllLater s (act_if_there s d g o a).state
    there None here = all_same s
    there (Some x) here = caller x here (life_in g x) refl
