-- Laws of actions: each leaves a valid state valid.
use Rattle.std.proofs.Common.{◌≡◌, ◌≢◌, ℕ, ◌+◌, ◌<◌, ◌≤◌, Bool, true, false, not, ◌&&◌, ◌==◌, if◌then◌else◌, IsTrue, List, [], ◌∷◌, length, filter, fold, is_some, is_none, unwrap_or, Option, Some, None, option_map, refl, sym, ap, ◌∙◌, subst, arith}
use Rattle.std.specs.Prelude.{IfSome}
use Rattle.std.specs.Ordering.{nat_cmp}
use Rattle.std.specs.BTreeMap.{is_at, insert_entry}
use Rattle.std.proofs.lemmas.List.{length-map}
use Rattle.std.proofs.lemmas.Bool.{false≢true}
use Rattle.argo_base.specs.declared.errno.Errno.TheVariants.{Srch, Exist, NoDev, ConnRefused}
use Rattle.argo_base.specs.declared.ring_key.RingKey.{RingKey}
use Rattle.argo_base.specs.Match.{key_of}
use Rattle.argo_base.specs.Slots.{is_legal, page_count}
use Rattle.argo_base.specs.Notices.{withdrawn}
use Rattle.argo_model.specs.declared.scripts.Actor.{Actor}
use Rattle.argo_model.specs.declared.scripts.Actor.TheVariants.{Vcpu, Control}
use Rattle.argo_model.specs.declared.scripts.DomainLine.{DomainLine}
use Rattle.argo_model.specs.declared.action.Action.{Action}
use Rattle.argo_model.specs.declared.action.Action.TheVariants.{Rest, Fetch, Put, Register, Unregister, Deliver, Sweep, Query, Look, Destroy, Reset, Create}
use Rattle.argo_model.specs.declared.action.Outcome.TheVariants.{Done, Answer as Answered}
use Rattle.argo_model.specs.Rules.Act.{act, act_of, act_if_live, act_if_there, act_of_control, put, look}
use Rattle.argo_model.specs.Rules.Deliver.{Offer, offer_to_domain, offer_to_life}
use Rattle.argo_model.specs.Rules.Destroy.{ring_without, live_without, forget, gone_domain, reset_live, next_domain, destroy, reset, create}
use Rattle.argo_model.specs.Rules.Effects.{Change, answered, leaving, refuse_if, change_in}
use Rattle.argo_model.specs.Rules.Limits.{most_rings}
use Rattle.argo_model.specs.Rules.Query.{query_domain, query_life, no_answer}
use Rattle.argo_model.specs.Rules.Register.{is_single, register_own, unregister_own}
use Rattle.argo_model.specs.Rules.RingBytes.{ring_bytes}
use Rattle.argo_model.specs.Rules.State.{State, Domain, Live, Ring, domain_of, life_in, is_alive, is_on, change_found, change_domain, change_life, fresh_domain, start_state}
use Rattle.argo_model.specs.Rules.Sweep.{sweep_found, next_ring}
use Rattle.state_laws.specs.Valid.{IsLive, IsRing, IsNotice, AreApart, IsValid, KeepsUntaken}
use Rattle.state_laws.proofs.Lists.{each_both, each_map, each_filter, two_map, two_filter, two_keys, each_set}
use Rattle.state_laws.proofs.Rising.{rising_insert, each_rising, each_remove, rising_remove, none_removed, length-kept, few_withdrawn}
use Rattle.state_laws.proofs.LiveActs.{KeepsLive, live_if, live_sweep, live_query, live_offer, live_look, live_unregister, live_put}
use Rattle.state_laws.proofs.LiveRegisters.{live_register}
use Rattle.state_laws.proofs.Domains.{found_alive, alive_other, get_map, IsFit, AreFit, IsRisen, Kept, fit_found, kept_change, kept_in, fit_more, valid_kept}

-- where a put lies in one page, and a ring has a legal length and the pages that this takes
abbrev pub Lies : Action → Type 0
Lies (Put page off bytes) = off + length bytes ≤ 4096
Lies (Register port partner len pages fail_exist) = IsTrue (is_legal len) × (length pages ≡ page_count len)
Lies a = Unit {0}

-- ---- domains that end, are reset, or are made anew

-- the rings of a domain without what another has there
module _ (alive more : ℕ → Bool) (d : ℕ) (up : (q : ℕ) → d ≢ q → IsTrue (alive q) → IsTrue (more q)) where
  ring_forgot : (memory : List ℕ) (e : RingKey × Ring) → IsRing alive memory e → IsRing more memory (e.0, ring_without d e.1)
  ring_forgot memory e g =
      record {
        legal = g.legal;
        paged = g.paged;
        pages_are_there = g.pages_are_there;
        pages_differ = g.pages_differ;
        tx_is_place = g.tx_is_place;
        untaken = by e.1.clean g.untaken;
        one_notice_each = rising_remove (is_at (nat_cmp d)) e.1.notices g.one_notice_each;
        few_notices = few_withdrawn e.1.notices d g.few_notices;
        notices = each_both (IsNotice alive e.0 e.1.len) (λ (n : ℕ × ℕ). d ≢ n.0) (IsNotice more e.0 e.1.len)
            (λ n k apart. record { size_can_fit = k.size_can_fit; is_alive = up n.0 apart k.is_alive; may_wait = k.may_wait })
            (withdrawn e.1.notices d) (each_remove (IsNotice alive e.0 e.1.len) (is_at (nat_cmp d)) e.1.notices g.notices) (none_removed d e.1.notices g.one_notice_each);
      } where
        by : (b : Bool) → KeepsUntaken b (ring_bytes memory e.1.pages) e.1 → KeepsUntaken b (ring_bytes memory e.1.pages) (ring_without d e.1)
        by true k = record { rx_is_place = k.rx_is_place; tx_is_word = k.tx_is_word; holds = k.holds }
        by false k = k

  live_forgot : (live : Live) → IsLive alive live → IsLive more (live_without d live)
  live_forgot live h =
      let rest = filter (λ (e : RingKey × Ring). not (e.0.partner == d)) live.rings in
      record {
        few_rings =
            let n = length-kept (λ (e : RingKey × Ring). not (e.0.partner == d)) live.rings in
            let few = h.few_rings in
            subst (λ (n : ℕ). n ≤ most_rings) (sym (length-map rest (λ (e : RingKey × Ring). (e.0, ring_without d e.1)))) (omega arith);
        serials_are_made = each_map (λ (e : RingKey × Ring). e.1.serial < live.next_serial) (λ (e : RingKey × Ring). e.1.serial < live.next_serial) (λ (e : RingKey × Ring). (e.0, ring_without d e.1)) (λ e l. l)
            rest (each_filter (λ (e : RingKey × Ring). e.1.serial < live.next_serial) (λ (e : RingKey × Ring). not (e.0.partner == d)) live.rings h.serials_are_made);
        rings = each_map (IsRing alive live.bytes) (IsRing more live.bytes) (λ (e : RingKey × Ring). (e.0, ring_without d e.1)) (ring_forgot live.bytes)
            rest (each_filter (IsRing alive live.bytes) (λ (e : RingKey × Ring). not (e.0.partner == d)) live.rings h.rings);
        apart = two_map AreApart AreApart (λ (e : RingKey × Ring). (e.0, ring_without d e.1)) (λ a b g. record { keys = g.keys; serials = g.serials; pages = g.pages })
            rest (two_filter AreApart (λ (e : RingKey × Ring). not (e.0.partner == d)) live.rings h.apart);
      }

  fit_forgot : (s : State) → AreFit alive s → AreFit more (forget s d)
  fit_forgot s fit = each_map (λ (e : ℕ × Domain). IsFit alive e.1) (λ (e : ℕ × Domain). IsFit more e.1) (λ (e : ℕ × Domain). (e.0, change_life (live_without d) e.1)) (λ e h. by e.1.life h) s fit where
    by : (l : Option Live) → IfSome l (IsLive alive) → IfSome (option_map (live_without d) l) (IsLive more)
    by None h = tt
    by (Some live) h = live_forgot live h

risen_forgot : (s : State) (d : ℕ) → IsRisen s → IsRisen (forget s d)
risen_forgot s d risen = two_map (λ (a b : ℕ × Domain). a.0 < b.0) (λ (a b : ℕ × Domain). a.0 < b.0) (λ (e : ℕ × Domain). (e.0, change_life (live_without d) e.1)) (λ a b l. l) s risen

alive_forgot : (s : State) (d q : ℕ) → is_alive (forget s d) q ≡ is_alive s q
alive_forgot s d q = ap found_alive (get_map (change_life (live_without d)) q s) ∙ by (domain_of s q) where
  by : (o : Option Domain) → found_alive (option_map (change_life (live_without d)) o) ≡ found_alive o
  by None = refl
  by (Some x) = life x.life where
    life : (l : Option Live) → is_some (option_map (live_without d) l) ≡ is_some l
    life None = refl
    life (Some live) = refl

changed_fit : (alive : ℕ → Bool) (s : State) (d : ℕ) (change : Domain → Domain) → ((x : Domain) → IsFit alive x → IsFit alive (change x)) → IsRisen s → AreFit alive s
    → IsRisen (change_domain s d change) × AreFit alive (change_domain s d change)
changed_fit alive s d change keeps risen fit = by (domain_of s d) refl where
  by : (o : Option Domain) → domain_of s d ≡ o → IsRisen (change_found s d change o) × AreFit alive (change_found s d change o)
  by None here = (risen, fit)
  by (Some x) here = (
    two_keys (λ a b. a < b) (is_at (nat_cmp d)) s (change x) risen,
    each_set (λ (e : ℕ × Domain). IsFit alive e.1) (is_at (nat_cmp d)) s (change x) fit (λ k. keeps x (fit_found alive s d x here fit)),
  )

-- a domain is changed after that, so that nothing of it is alive which was not
module _ (s : State) (d : ℕ) (v : IsValid s) where
  destroyed : IsValid (change_domain (forget s d) d gone_domain)
  destroyed =
      let t = change_domain (forget s d) d gone_domain in
      let fit = fit_forgot (is_alive s) (is_alive t) d (λ q apart h. up q apart h) s v.lives in
      let risen = risen_forgot s d v.one_domain_each in
      let k = changed_fit (is_alive t) (forget s d) d gone_domain (λ x h. tt) risen fit in
      record { one_domain_each = k.0; lives = k.1 } where
        up : (q : ℕ) → d ≢ q → IsTrue (is_alive s q) → IsTrue (is_alive (change_domain (forget s d) d gone_domain) q)
        up q apart h = subst (λ (b : Bool). IsTrue b) (sym (other (domain_of (forget s d) d) ∙ alive_forgot s d q)) h where
          other : (o : Option Domain) → is_alive (change_found (forget s d) d gone_domain o) q ≡ is_alive (forget s d) q
          other None = refl
          other (Some x) = alive_other (forget s d) d q (gone_domain x) apart

  was_reset : IsValid (change_domain (forget s d) d (change_life reset_live))
  was_reset =
      let fit = fit_forgot (is_alive s) (is_alive s) d (λ q apart h. h) s v.lives in
      let risen = risen_forgot s d v.one_domain_each in
      let k = kept_change (is_alive s) (forget s d) d (change_life reset_live) (λ x h. by x.life h) (λ x h. lives x.life h) risen fit in
      valid_of (record { risen = k.risen; fit = k.fit; lives = λ q h. k.lives q (subst (λ (b : Bool). IsTrue b) (sym (alive_forgot s d q)) h) }) where
        by : (l : Option Live) → IfSome l (IsLive (is_alive s)) → IfSome (option_map reset_live l) (IsLive (is_alive s))
        by None h = tt
        by (Some live) h = record { few_rings = omega arith; serials_are_made = tt; rings = tt; apart = tt }

        lives : (l : Option Live) → IsTrue (is_some l) → IsTrue (is_some (option_map reset_live l))
        lives None h = h
        lives (Some live) h = refl

        valid_of : Kept (is_alive s) s (change_domain (forget s d) d (change_life reset_live)) → IsValid (change_domain (forget s d) d (change_life reset_live))
        valid_of k = valid_kept s (change_domain (forget s d) d (change_life reset_live)) k

  made : IsValid (change_domain s d next_domain)
  made =
      valid_kept s (change_domain s d next_domain)
      (kept_change (is_alive s) s d next_domain (λ x h. record { few_rings = omega arith; serials_are_made = tt; rings = tt; apart = tt }) (λ x h. refl) v.one_domain_each v.lives)

  pub valid_destroy : IsValid (destroy s d).state
  valid_destroy = by (not (is_alive s d)) where
    by : (b : Bool) → IsValid (unwrap_or (refuse_if b Srch (leaving Done (change_domain (forget s d) d gone_domain))).left s)
    by true = v
    by false = destroyed

  pub valid_reset : IsValid (reset s d).state
  valid_reset = by (not (is_alive s d)) where
    by : (b : Bool) → IsValid (unwrap_or (refuse_if b Srch (leaving Done (change_domain (forget s d) d (change_life reset_live)))).left s)
    by true = v
    by false = was_reset

  pub valid_create : IsValid (create s d).state
  valid_create = by (is_none (domain_of s d)) (is_alive s d) where
    by : (a b : Bool) → IsValid (unwrap_or (refuse_if a Srch (refuse_if b Exist (leaving Done (change_domain s d next_domain)))).left s)
    by true b = v
    by false true = v
    by false false = made

-- ---- actions of a domain

module _ (s : State) (v : IsValid s) (d : ℕ) (x : Domain) (live : Live) (h : IsLive (is_alive s) live) (lives : IsTrue (is_alive s d)) where
  changed : (to : ℕ) (c : Change Live) → KeepsLive (is_alive s) c → IsValid (change_in s to c).state
  changed to c k = valid_kept s (change_in s to c).state (kept_in (is_alive s) s to c k.left v.one_domain_each v.lives)

  -- what others have
  offered : (to port : ℕ) (o : Offer) → IsTrue (is_alive s o.sender) → (y : Option Domain) → domain_of s to ≡ y → KeepsLive (is_alive s) (offer_to_domain to port o y)
  offered to port o sends None here = record { left = tt }
  offered to port o sends (Some y) here =
      live_if (is_alive s) (not y.on) ConnRefused (offer_to_life to port o y.life) (λ e. by y.life (fit_found (is_alive s) s to y here v.lives)) where
        by : (l : Option Live) → IfSome l (IsLive (is_alive s)) → KeepsLive (is_alive s) (offer_to_life to port o l)
        by None g = record { left = tt }
        by (Some other) g = live_offer (is_alive s) other g to port o sends

  asked : (to port need : ℕ) (y : Option Domain) → domain_of s to ≡ y → KeepsLive (is_alive s) (query_domain d port need y)
  asked to port need None here = record { left = tt }
  asked to port need (Some y) here = on y.on (by y.life (fit_found (is_alive s) s to y here v.lives)) where
    by : (l : Option Live) → IfSome l (IsLive (is_alive s)) → KeepsLive (is_alive s) (query_life d port need l)
    by None g = record { left = tt }
    by (Some other) g = live_query (is_alive s) other g port d need lives

    on : (b : Bool) → KeepsLive (is_alive s) (query_life d port need y.life) → KeepsLive (is_alive s) (if b then query_life d port need y.life else answered (Answered no_answer))
    on true k = k
    on false k = record { left = tt }

  pub valid_act_of : (a : Action) → Lies a → IsValid (act_of s d x live a).state
  valid_act_of Rest lies = v
  valid_act_of (Fetch page off n) lies = v
  valid_act_of (Put page off bytes) lies = changed d (put live page off bytes) (live_put (is_alive s) live h page off bytes lies)
  valid_act_of (Register port partner len pages fail_exist) lies =
      let key = key_of port partner in
      let own = register_own live key len pages fail_exist in
      let off = refuse_if (is_single partner && not (is_on s partner)) ConnRefused own in
      let on = refuse_if (not x.on) NoDev off in
      let c = refuse_if (is_single partner && not (is_alive s partner)) Srch on in
      changed d c
      (live_if (is_alive s) (is_single partner && not (is_alive s partner)) Srch on (λ e.
      live_if (is_alive s) (not x.on) NoDev off (λ e.
      live_if (is_alive s) (is_single partner && not (is_on s partner)) ConnRefused own (λ e.
      live_register (is_alive s) live h key len pages lies.0 lies.1 fail_exist))))
  valid_act_of (Unregister port partner) lies = changed d (unregister_own x live (key_of port partner)) (live_unregister (is_alive s) live h x (key_of port partner))
  valid_act_of (Deliver port to to_port kind load) lies =
      let o : Offer = record { sender = d; port = port; kind = kind; load = load } in
      let rest = offer_to_domain to to_port o (domain_of s to) in
      let on = refuse_if (not x.on) NoDev rest in
      let c = refuse_if (not (is_alive s to)) Srch on in
      changed to c
      (live_if (is_alive s) (not (is_alive s to)) Srch on (λ e.
      live_if (is_alive s) (not x.on) NoDev rest (λ e. offered to to_port o lives (domain_of s to) refl)))
  valid_act_of (Sweep after) lies =
      let rest = sweep_found live (next_ring after live.rings) in
      changed d (refuse_if (not x.on) NoDev rest) (live_if (is_alive s) (not x.on) NoDev rest (λ e. live_sweep (is_alive s) live h after))
  valid_act_of (Query to to_port need) lies =
      let rest = query_domain d to_port need (domain_of s to) in
      changed to (refuse_if (not x.on) NoDev rest) (live_if (is_alive s) (not x.on) NoDev rest (λ e. asked to to_port need (domain_of s to) refl))
  valid_act_of Look lies = changed d (look live) (live_look (is_alive s) live h)
  valid_act_of (Destroy e) lies = valid_destroy s e v
  valid_act_of (Reset e) lies = valid_reset s e v
  valid_act_of (Create e) lies = valid_create s e v

-- ---- actions of a section

lives_in : (g : ℕ) (x : Domain) (live : Live) → life_in g x ≡ Some live → x.life ≡ Some live
lives_in g x live h = by (x.generation == g) h where
  by : (b : Bool) → (if b then x.life else None) ≡ Some live → x.life ≡ Some live
  by true h = h
  by false h = cc

pub valid_act : (actor : Actor) (a : Action) (s : State) → Lies a → IsValid s → IsValid (act actor a s).state
valid_act Control a s lies v = control a where
  control : (a : Action) → IsValid (act_of_control s a).state
  control Rest = v
  control (Fetch page off n) = v
  control (Put page off bytes) = v
  control (Register port partner len pages fail_exist) = v
  control (Unregister port partner) = v
  control (Deliver port to to_port kind load) = v
  control (Sweep after) = v
  control (Query to to_port need) = v
  control Look = v
  control (Destroy e) = valid_destroy s e v
  control (Reset e) = valid_reset s e v
  control (Create e) = valid_create s e v
valid_act (Vcpu d g) a s lies v = there (domain_of s d) refl where
  caller : (x : Domain) → domain_of s d ≡ Some x → (life : Option Live) → life_in g x ≡ life → IsValid (act_if_live s d x life a).state
  caller x here None is = v
  caller x here (Some live) is =
      let l = lives_in g x live is in
      let fit : IfSome (Some live) (IsLive (is_alive s)) = subst (λ (o : Option Live). IfSome o (IsLive (is_alive s))) l (fit_found (is_alive s) s d x here v.lives) in
      let on : IsTrue (is_alive s d) = subst (λ (o : Option Domain). IsTrue (found_alive o)) (sym here) (subst (λ (o : Option Live). IsTrue (is_some o)) (sym l) refl) in
      valid_act_of s v d x live fit on a lies

  there : (o : Option Domain) → domain_of s d ≡ o → IsValid (act_if_there s d g o a).state
  there None here = v
  there (Some x) here = caller x here (life_in g x) refl

-- ---- the start

pub valid_start : (lines : List DomainLine) → IsValid (start_state lines)
valid_start lines = let h = by lines [] tt tt in record { one_domain_each = h.0; lives = fit_more (λ q. false) (is_alive (start_state lines)) (λ q n. absurd (false≢true n)) (start_state lines) h.1 } where
  fresh : (l : DomainLine) → IsFit (λ q. false) (fresh_domain l)
  fresh l = record { few_rings = omega arith; serials_are_made = tt; rings = tt; apart = tt }

  by : (ls : List DomainLine) (s : State) → IsRisen s → AreFit (λ q. false) s
      → IsRisen (fold (λ s l. insert_entry nat_cmp s l.id (fresh_domain l)) s ls) × AreFit (λ q. false) (fold (λ s l. insert_entry nat_cmp s l.id (fresh_domain l)) s ls)
  by [] s risen fit = (risen, fit)
  by (l ∷ ls) s risen fit =
      by ls (insert_entry nat_cmp s l.id (fresh_domain l)) (rising_insert s l.id (fresh_domain l) risen)
      (each_rising (λ (e : ℕ × Domain). IsFit (λ q. false) e.1) s l.id (fresh_domain l) fit (fresh l))
