-- An outcome is `Gone` exactly where the caller is away.
use Rattle.std.proofs.Common.{◌≡◌, ℕ, ◌+◌, ◌*◌, Bool, true, false, cond, not, ◌&&◌, ◌||◌, List, [], ◌∷◌, length, take, drop, Option, Some, None, refl, ap, ◌∙◌}
use Rattle.std.specs.Prelude.{is_none, option_and_then}
use Rattle.argo_base.specs.declared.errno.Errno.{Errno}
use Rattle.argo_base.specs.declared.errno.Errno.TheVariants.{NoEnt, Srch, Fault as efault, Exist, NoDev, Inval, NoSpc, ConnRefused}
use Rattle.argo_base.specs.declared.ring_key.RingKey.{RingKey}
use Rattle.argo_base.specs.Match.{match_of, key_of}
use Rattle.argo_base.specs.Notices.{is_busy}
use Rattle.argo_base.specs.Slots.{fits, is_too_big}
use Rattle.argo_model.specs.declared.scripts.Actor.{Actor}
use Rattle.argo_model.specs.declared.scripts.Actor.TheVariants.{Vcpu, Control}
use Rattle.argo_model.specs.declared.action.Action.{Action}
use Rattle.argo_model.specs.declared.action.Action.TheVariants.{Rest, Fetch, Put, Register, Unregister, Deliver, Sweep, Query, Look, Destroy, Reset, Create}
use Rattle.argo_model.specs.declared.action.Load.{Load}
use Rattle.argo_model.specs.declared.action.Load.TheVariants.{Body, Faulted, Refused as RefusedLoad}
use Rattle.argo_model.specs.declared.action.Outcome.TheVariants.{Done, Bytes, Fault}
use Rattle.argo_model.specs.Rules.State.{State, Domain, Live, Ring, domain_of, life_in, has_page, is_alive, is_on, change_domain, change_life}
use Rattle.argo_model.specs.Rules.Destroy.{destroy, reset, create, forget, gone_domain, reset_live, next_domain}
use Rattle.argo_model.specs.Rules.Act.{act, act_of, act_of_control, act_if_there, act_if_live}
use Rattle.argo_model.specs.Rules.Effects.{Change, answered, leaving, refused, refuse_if, change_in}
use Rattle.argo_model.specs.Rules.Matches.{RingAt, match_of_domain, paged_at}
use Rattle.argo_model.specs.Rules.Deliver.{Offer, accepted, message_of, with_notice, offer_load, offer_to_domain}
use Rattle.argo_model.specs.Rules.Outcomes.{is_gone}
use Rattle.argo_model.specs.Rules.Puts.{put_into}
use Rattle.argo_model.specs.Rules.Query.{query_domain, query_life, query_match}
use Rattle.argo_model.specs.Rules.Register.{register_own, register_allowed, register_anew, own_ring, stands_so, is_single, has_ring, without_ring}
use Rattle.argo_model.specs.Rules.RingBytes.{PagedRing, free}
use Rattle.argo_model.specs.Rules.Sweep.{sweep_own, sweep_found, next_ring}
use Rattle.reply_causes.specs.Tables.{is_lost}
use Rattle.reply_causes.specs.Gone.{is_away, LostExactlyWhereAway}
use Rattle.reply_causes.proofs.DeliverLaws.{change_at, offer_at, offered}

-- a change that is not answered so
record IsQuiet (X : Type 0) (c : Change X) : Type 0 where
  quiet : is_gone c.outcome ≡ false

-- a refusal is none
quiet_if : (X : Type 0) (b : Bool) (e : Errno) (c : Change X) → IsQuiet X c → IsQuiet X (refuse_if b e c)
quiet_if X true e c h = record { quiet = refl }
quiet_if X false e c h = h

allowed-quiet : (live : Live) (key : RingKey) (len : ℕ) (pages : List ℕ) (o : Option Ring) → is_gone (register_allowed live key len pages o).outcome ≡ false
allowed-quiet live key len pages None = refl
allowed-quiet live key len pages (Some r) = by (stands_so r len pages) where
  by : (b : Bool) → is_gone (cond b (answered Done) (register_anew live key r len pages)).outcome ≡ false
  by true = refl
  by false = refl

offered-quiet : (big fit busy : Bool) (rest : Change PagedRing) (noting : PagedRing) → is_gone rest.outcome ≡ false → is_gone (offered big fit busy rest noting).outcome ≡ false
offered-quiet true fit busy rest noting h = refl
offered-quiet false true busy rest noting h = h
offered-quiet false false true rest noting h = refl
offered-quiet false false false rest noting h = refl

load-quiet : (p : PagedRing) (owner : ℕ) (o : Offer) (load : Load) → is_gone (offer_load p owner o load).outcome ≡ false
load-quiet p owner o (RefusedLoad e) = refl
load-quiet p owner o (Faulted n) =
    offered-quiet (is_too_big p.ring.len n) (fits (free p) n) (is_busy p.ring.notices o.sender) (refused efault) (with_notice o.sender n p) refl
load-quiet p owner o (Body bytes) =
    offered-quiet (is_too_big p.ring.len (length bytes)) (fits (free p) (length bytes)) (is_busy p.ring.notices o.sender) (accepted p owner (message_of o bytes)) (with_notice o.sender (length bytes) p) refl

match-quiet : (to : ℕ) (o : Offer) (m : Option RingAt) → is_gone (change_at to o m).outcome ≡ false
match-quiet to o None = refl
match-quiet to o (Some m) = load-quiet (paged_at m) to o o.load

offer-quiet : (to port : ℕ) (o : Offer) (found : Option Domain) → is_gone (offer_to_domain to port o found).outcome ≡ false
offer-quiet to port o found =
    ap (λ (c : Change Live). is_gone c.outcome) (offer_at to port o found) ∙ match-quiet to o (option_and_then (match_of_domain to port o.sender) found)

sweep-quiet : (live : Live) (e : Option (RingKey × Ring)) → is_gone (sweep_found live e).outcome ≡ false
sweep-quiet live None = refl
sweep-quiet live (Some e) = refl

query-quiet : (d port need : ℕ) (found : Option Domain) → is_gone (query_domain d port need found).outcome ≡ false
query-quiet d port need None = refl
query-quiet d port need (Some x) = by x.on where
  ring : (live : Live) (e : Option (RingKey × Ring)) → is_gone (query_match live d need e).outcome ≡ false
  ring live None = refl
  ring live (Some e) = refl

  life : (l : Option Live) → is_gone (query_life d port need l).outcome ≡ false
  life None = refl
  life (Some live) = ring live (match_of live.rings port d)

  by : (b : Bool) → is_gone (cond b (query_life d port need x.life) (query_domain d port need None)).outcome ≡ false
  by true = life x.life
  by false = refl

-- the acts of the control section
destroy-quiet : (s : State) (d : ℕ) → is_gone (destroy s d).outcome ≡ false
destroy-quiet s d = by (not (is_alive s d)) where
  by : (b : Bool) → is_gone (refuse_if b Srch (leaving Done (change_domain (forget s d) d gone_domain))).outcome ≡ false
  by true = refl
  by false = refl

reset-quiet : (s : State) (d : ℕ) → is_gone (reset s d).outcome ≡ false
reset-quiet s d = by (not (is_alive s d)) where
  by : (b : Bool) → is_gone (refuse_if b Srch (leaving Done (change_domain (forget s d) d (change_life reset_live)))).outcome ≡ false
  by true = refl
  by false = refl

create-quiet : (s : State) (d : ℕ) → is_gone (create s d).outcome ≡ false
create-quiet s d = by (is_none (domain_of s d)) (is_alive s d) where
  by : (a b : Bool) → is_gone (refuse_if a Srch (refuse_if b Exist (leaving Done (change_domain s d next_domain)))).outcome ≡ false
  by true b = refl
  by false true = refl
  by false false = refl

-- no action of a domain that lives is answered so
act-quiet : (s : State) (d : ℕ) (x : Domain) (live : Live) (a : Action) → is_gone (act_of s d x live a).outcome ≡ false
act-quiet s d x live Rest = refl
act-quiet s d x live (Fetch page off n) = by (has_page live page) where
  by : (b : Bool) → is_gone (cond b (Bytes (take n (drop (4096 * page + off) live.bytes))) Fault) ≡ false
  by true = refl
  by false = refl
act-quiet s d x live (Put page off bytes) = by (has_page live page) where
  by : (b : Bool) → is_gone (change_in s d (cond b (leaving Done (put_into live page off bytes)) (answered Fault))).outcome ≡ false
  by true = refl
  by false = refl
act-quiet s d x live (Register port partner len pages fail_exist) =
    let own : IsQuiet Live (register_own live (key_of port partner) len pages fail_exist) =
    quiet_if Live _ Exist _ (quiet_if Live _ NoSpc _ (quiet_if Live _ Inval _ (
    record { quiet = allowed-quiet live (key_of port partner) len pages (own_ring live (key_of port partner)) }))) in
    let all : IsQuiet Live (
    refuse_if (is_single partner && not (is_alive s partner)) Srch (
    refuse_if (not x.on) NoDev (
    refuse_if (is_single partner && not (is_on s partner)) ConnRefused (register_own live (key_of port partner) len pages fail_exist)))) =
    quiet_if Live _ Srch _ (quiet_if Live _ NoDev _ (quiet_if Live _ ConnRefused _ own)) in
    all.quiet
act-quiet s d x live (Unregister port partner) =
    let own : IsQuiet Live (refuse_if (not (has_ring live (key_of port partner))) NoEnt (leaving Done (without_ring live (key_of port partner)))) =
    quiet_if Live (not (has_ring live (key_of port partner))) NoEnt (leaving Done (without_ring live (key_of port partner))) (record { quiet = refl }) in
    let all : IsQuiet Live (refuse_if (not x.on) NoDev (refuse_if (not (has_ring live (key_of port partner))) NoEnt (leaving Done (without_ring live (key_of port partner))))) =
    quiet_if Live (not x.on) NoDev _ own in
    all.quiet
act-quiet s d x live (Deliver port to to_port kind load) =
    let o : Offer = record { sender = d; port = port; kind = kind; load = load } in
    let all : IsQuiet Live (refuse_if (not (is_alive s to)) Srch (refuse_if (not x.on) NoDev (offer_to_domain to to_port o (domain_of s to)))) =
    quiet_if Live _ Srch _ (quiet_if Live _ NoDev _ (record { quiet = offer-quiet to to_port o (domain_of s to) })) in all.quiet
act-quiet s d x live (Sweep serial) =
    let all : IsQuiet Live (sweep_own x live serial) = quiet_if Live _ NoDev _ (record { quiet = sweep-quiet live (next_ring serial live.rings) }) in all.quiet
act-quiet s d x live (Query to to_port need) =
    let all : IsQuiet Live (refuse_if (not x.on) NoDev (query_domain d to_port need (domain_of s to))) =
    quiet_if Live _ NoDev _ (record { quiet = query-quiet d to_port need (domain_of s to) }) in all.quiet
act-quiet s d x live Look = refl
act-quiet s d x live (Destroy dom) = destroy-quiet s dom
act-quiet s d x live (Reset dom) = reset-quiet s dom
act-quiet s d x live (Create dom) = create-quiet s dom

-- nor one of the control section
control-quiet : (s : State) (a : Action) → is_gone (act_of_control s a).outcome ≡ false
control-quiet s Rest = refl
control-quiet s (Fetch page off n) = refl
control-quiet s (Put page off bytes) = refl
control-quiet s (Register port partner len pages fail_exist) = refl
control-quiet s (Unregister port partner) = refl
control-quiet s (Deliver port to to_port kind load) = refl
control-quiet s (Sweep serial) = refl
control-quiet s (Query to to_port need) = refl
control-quiet s Look = refl
control-quiet s (Destroy dom) = destroy-quiet s dom
control-quiet s (Reset dom) = reset-quiet s dom
control-quiet s (Create dom) = create-quiet s dom

act-gone : (actor : Actor) (a : Action) (s : State) → is_gone (act actor a s).outcome ≡ is_away actor s
act-gone Control a s = control-quiet s a
act-gone (Vcpu d generation) a s = by (domain_of s d) where
  life : (x : Domain) (l : Option Live) → is_gone (act_if_live s d x l a).outcome ≡ is_none l
  life x None = refl
  life x (Some live) = act-quiet s d x live a

  by : (o : Option Domain) → is_gone (act_if_there s d generation o a).outcome ≡ is_none (option_and_then (life_in generation) o)
  by None = refl
  by (Some x) = life x (life_in generation x)

pub lost_exactly_where_away : LostExactlyWhereAway
lost_exactly_where_away actor program [] h = refl
lost_exactly_where_away actor program (t ∷ ts) h =
    let here : is_gone t.step.outcome ≡ is_away actor t.before = ap is_gone h.0.outcome ∙ act-gone actor t.step.action t.before in
    ap (λ b. b || is_lost ts) here ∙ ap (λ b. is_away actor t.before || b) (lost_exactly_where_away actor (λ os. program (t.step.outcome ∷ os)) ts h.1)
