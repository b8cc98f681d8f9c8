-- Laws of acts that touch one ring of a domain: a sweep, and a registration.
use Rattle.std.proofs.Common.{◌≡◌, ℕ, ◌<◌, Bool, true, false, ◌&&◌, not, cond, IfSome, List, [], ◌∷◌, length, filter, nat_le, is_some, unwrap_or, if◌then◌else◌, Option, Some, None, option_map, refl, sym, ap, ◌∙◌, subst}
use Rattle.std.specs.Map.{lookup, set_value}
use Rattle.std.specs.BTreeMap.{is_at}
use Rattle.std.proofs.lemmas.Bool.{false≢true}
use Rattle.std.proofs.Math.Bool.{and-true}
use Rattle.argo_base.specs.Match.{key_cmp, key_in, key_of, wildcard}
use Rattle.argo_base.specs.Notices.{Notices, size_of, doms_of, never_fits, fits_now}
use Rattle.argo_base.specs.declared.errno.Errno.{Errno}
use Rattle.argo_base.specs.declared.errno.Errno.TheVariants.{Srch, Exist, NoSpc, Inval, NoDev, ConnRefused}
use Rattle.argo_base.specs.declared.ring_key.RingId.{RingId}
use Rattle.argo_base.specs.declared.ring_key.RingKey.{RingKey}
use Rattle.argo_model.specs.declared.action.Action.TheVariants.{Sweep}
use Rattle.argo_model.specs.declared.scripts.Actor.TheVariants.{Vcpu}
use Rattle.argo_model.specs.Rules.Act.{act, act_if_there, act_if_live}
use Rattle.argo_model.specs.Rules.Effects.{Change, change_in, refuse_if, answered, after}
use Rattle.argo_model.specs.Rules.Limits.{most_rings}
use Rattle.argo_model.specs.Rules.Register.{is_single, own_ring, has_ring, has_number, are_free_for, register_own, register_allowed, register_new, register_anew, stands_so, resized}
use Rattle.argo_model.specs.Rules.RingBytes.{PagedRing, paged, set_paged, free}
use Rattle.argo_model.specs.Rules.Starts.{started}
use Rattle.argo_model.specs.Rules.State.{State, Domain, Live, Ring, domain_of, life_in, is_alive, is_on}
use Rattle.argo_model.specs.Rules.Sweep.{next_ring, sweep_found, sweep_ring, waits_on}
use Rattle.argo_model.specs.declared.action.Outcome.TheVariants.{Done}
use Rattle.touch_laws.specs.Touches.{Touches}
use Rattle.live_domain.specs.declared.registration.Registration.{Registration}
use Rattle.section_world.specs.Acts.{registers}
use Rattle.touch_laws.proofs.LeftLaws.{fit_of}
use Rattle.touch_laws.proofs.ActLaws.{lives_in, acts_by, seen}
use Rattle.touch_laws.proofs.NoticeLaws.{kept_others, none_left, key_set_other, key_set_same, key_put_other, key_put_same}
use Rattle.touch_laws.proofs.RingLaws.{TouchesLive, touches_self, touches_same, touches, live_found, rings_in_change}
use Rattle.touch_laws.proofs.NextLaws.{next_set}
use Rattle.state_laws.specs.Each.{EachTwo}
use Rattle.state_laws.specs.Valid.{IsLive, IsRing, IsValid}
use Rattle.state_laws.proofs.Domains.{fit_found}
use Rattle.state_laws.proofs.Lives.{key_same, each_in, lookup_in, next_in, chosen}
use Rattle.live_domain.specs.Keyed.{has_notice}
use Rattle.domains.specs.Domain.{sweep_if_live}
use Rattle.domains.specs.ById.{id_in, rings_in, stands, next_key}
use Rattle.domains.specs.World.{swept, swept_of, register_change, registered, registered_if_live, registered_if_there}

unset : {K X : Type 0} (test : K → Bool) (es : List (K × X)) (w : X) → lookup test es ≡ None → set_value test es w ≡ es
unset test [] w none = refl
unset {K} {X} test (e ∷ es) w none = by (test e.0) none (unset test es w) where
  by : (b : Bool) → cond b (Some e.1) (lookup test es) ≡ None → (lookup test es ≡ None → set_value test es w ≡ es) → cond b ((e.0, w) ∷ es) (e ∷ set_value test es w) ≡ e ∷ es
  by true none rest = cc
  by false none rest = ap (λ r. e ∷ r) (rest none)

abbrev Rises : Notices → Type 0
Rises ns = EachTwo (λ (a b : ℕ × ℕ). a.0 < b.0) ns

-- some notices of a ring went out
went_out : (out : ℕ × ℕ → Bool) (live : Live) (key : RingKey) (r : Ring) (p : PagedRing) → lookup (is_at (key_cmp key)) live.rings ≡ Some r → Rises r.notices
    → p.ring.notices ≡ filter (λ n. not (out n)) r.notices → TouchesLive live (set_paged live key p) key (doms_of (filter out r.notices))
went_out out live key r p found rises is =
    record {
      stands = λ k apart. ap is_some (key_set_other key live.rings p.ring k apart);
      notices = λ k q none. note k q (is_at (key_cmp key) k) refl none;
      ended = λ q h. ap (λ o. has_notice o q) (key_set_same key live.rings p.ring r found) ∙ ap (λ (ns : Notices). is_some (size_of ns q)) is ∙ none_left out r.notices q rises h;
    } where
      note : (k : RingKey) (q : ℕ) (b : Bool) → is_at (key_cmp key) k ≡ b → (has_number (doms_of (filter out r.notices)) q && is_at (key_cmp key) k) ≡ false
          → has_notice (own_ring (set_paged live key p) k) q ≡ has_notice (own_ring live k) q
      note k q false apart none = ap (λ o. has_notice o q) (key_set_other key live.rings p.ring k apart)
      note k q true hit none =
          let same = key_same key k hit in
          let n : has_number (doms_of (filter out r.notices)) q ≡ false = sym (and-true (has_number (doms_of (filter out r.notices)) q)) ∙ ap (λ b. has_number (doms_of (filter out r.notices)) q && b) (sym hit) ∙ none in
          ap (λ k. has_notice (own_ring (set_paged live key p) k) q) (sym same)
          ∙ ap (λ o. has_notice o q) (key_set_same key live.rings p.ring r found) ∙ ap (λ (ns : Notices). is_some (size_of ns q)) is ∙ kept_others out r.notices q n
          ∙ sym (ap (λ o. has_notice o q) found) ∙ ap (λ k. has_notice (own_ring live k) q) same

-- ---- a sweep

-- the key of the next ring, or that of port 0 where there is none
abbrev key_next : Option (RingKey × Ring) → RingKey
key_next o = unwrap_or (option_map (λ (e : RingKey × Ring). e.0) o) (key_of 0 wildcard)

module _ (s : State) (d serial : ℕ) (v : IsValid s) (x : Domain) (live : Live) (here : domain_of s d ≡ Some x) (lives : x.life ≡ Some live) where
  fit : IsLive (is_alive s) live
  fit = subst (λ (o : Option Live). IfSome o (IsLive (is_alive s))) lives (fit_found (is_alive s) s d x here v.lives)

  key_is : (e : RingKey × Ring) → next_ring serial live.rings ≡ Some e → next_key s d serial ≡ e.0
  key_is e is = ap (λ l. key_next (next_ring serial (rings_in l))) (live_found s d x here ∙ lives) ∙ ap key_next is

  next : (o : Option (RingKey × Ring)) → next_ring serial live.rings ≡ o → Touches s (change_in s d (sweep_found live o)).state (id_in d (next_key s d serial)) (sweep_found live o).signals
  next None is = touches_same s (id_in d (next_key s d serial))
  next (Some e) is =
      let among = next_in serial live.rings e is in
      let found = lookup_in live.rings e fit.apart among in
      let rises = (each_in (IsRing (is_alive s) live.bytes) e live.rings among fit.rings).one_notice_each in
      let c : Change Live = sweep_found live (Some e) in
      subst (λ k. Touches s (change_in s d c).state (id_in d k) c.signals) (sym (key_is e is))
      (touches s d x live here lives c e.0 c.signals (went_out (fits_now (free (paged live.bytes e.1))) live e.0 e.1 (record { ring = record e.1 { notices = filter (λ n. not (fits_now (free (paged live.bytes e.1)) n)) e.1.notices }; own = (paged live.bytes e.1).own }) found rises refl))

  on : (b : Bool) → Touches s (change_in s d (refuse_if (not b) NoDev (sweep_found live (next_ring serial live.rings)))).state (id_in d (next_key s d serial))
      (refuse_if (not b) NoDev (sweep_found live (next_ring serial live.rings))).signals
  on true = next (next_ring serial live.rings) refl
  on false = touches_same s (id_in d (next_key s d serial))

  next_stays : (o : Option (RingKey × Ring)) → next_ring serial live.rings ≡ o → next_key (change_in s d (sweep_found live o)).state d serial ≡ next_key s d serial
  next_stays None is = refl
  next_stays (Some e) is =
      let p = paged live.bytes e.1 in
      let swept = record e.1 { notices = filter (waits_on (free p)) e.1.notices } in
      let found = lookup_in live.rings e fit.apart (next_in serial live.rings e is) in
      ap (λ rings. key_next (next_ring serial rings)) (rings_in_change s d x live (sweep_found live (Some e)) here lives)
      ∙ ap (λ k. unwrap_or k (key_of 0 wildcard)) (next_set serial (is_at (key_cmp e.0)) live.rings swept e.1 found refl)
      ∙ sym (ap (λ l. key_next (next_ring serial (rings_in l))) (live_found s d x here ∙ lives))

  next_if_on : (b : Bool) → next_key (change_in s d (refuse_if (not b) NoDev (sweep_found live (next_ring serial live.rings)))).state d serial ≡ next_key s d serial
  next_if_on true = next_stays (next_ring serial live.rings) refl
  next_if_on false = refl

pub sweep_touches : (s : State) (d g serial : ℕ) → IsValid s → Touches s (act (Vcpu d g) (Sweep serial) s).state (id_in d (next_key s d serial)) (swept s d g serial)
sweep_touches s d g serial v = there (domain_of s d) refl where
  life : (x : Domain) → domain_of s d ≡ Some x → (l : Option Live) → life_in g x ≡ l
      → Touches s (act_if_live s d x l (Sweep serial)).state (id_in d (next_key s d serial)) (sweep_if_live x l serial).signals
  life x here None is = touches_same s (id_in d (next_key s d serial))
  life x here (Some live) is = on s d serial v x live here (lives_in g x live is) x.on

  there : (o : Option Domain) → domain_of s d ≡ o → Touches s (act_if_there s d g o (Sweep serial)).state (id_in d (next_key s d serial)) (swept_of g serial o)
  there None here = touches_same s (id_in d (next_key s d serial))
  there (Some x) here = life x here (life_in g x) refl

-- and the ring that is next after the serial has the key that it had
pub sweep_next : (s : State) (d g serial : ℕ) → IsValid s → next_key (act (Vcpu d g) (Sweep serial) s).state d serial ≡ next_key s d serial
sweep_next s d g serial v =
    acts_by (λ t. next_key t d serial ≡ next_key s d serial) s d g (Sweep serial) refl (λ x live here lives. next_if_on s d serial v x live here lives x.on)

-- and every ring stands where it stood
pub sweep_stands : (s : State) (d g serial : ℕ) (y : RingId) → stands (act (Vcpu d g) (Sweep serial) s).state y ≡ stands s y
sweep_stands s d g serial y = acts_by (λ t. stands t y ≡ stands s y) s d g (Sweep serial) refl (λ x live here lives. on x live here lives x.on) where
  put : (live : Live) (key : RingKey) (p : PagedRing) (r : Ring) (k : RingKey) → lookup (is_at (key_cmp key)) live.rings ≡ Some r → is_some (own_ring (set_paged live key p) k) ≡ is_some (own_ring live k)
  put live key p r k found = by (is_at (key_cmp key) k) refl where
    by : (b : Bool) → is_at (key_cmp key) k ≡ b → is_some (own_ring (set_paged live key p) k) ≡ is_some (own_ring live k)
    by true hit =
        let same = key_same key k hit in
        ap (λ k. is_some (own_ring (set_paged live key p) k)) (sym same) ∙ ap is_some (key_set_same key live.rings p.ring r found) ∙ ap is_some (sym found) ∙ ap (λ k. is_some (own_ring live k)) same
    by false apart = ap is_some (key_set_other key live.rings p.ring k apart)

  absent : (live : Live) (key : RingKey) (p : PagedRing) (k : RingKey) → lookup (is_at (key_cmp key)) live.rings ≡ None → is_some (own_ring (set_paged live key p) k) ≡ is_some (own_ring live k)
  absent live key p k none = ap (λ rs. is_some (lookup (is_at (key_cmp k)) rs)) (unset (is_at (key_cmp key)) live.rings p.ring none)

  any : (live : Live) (key : RingKey) (p : PagedRing) (k : RingKey) (o : Option Ring) → lookup (is_at (key_cmp key)) live.rings ≡ o → is_some (own_ring (set_paged live key p) k) ≡ is_some (own_ring live k)
  any live key p k None is = absent live key p k is
  any live key p k (Some r) is = put live key p r k is

  next : (x : Domain) (live : Live) → domain_of s d ≡ Some x → x.life ≡ Some live → (o : Option (RingKey × Ring)) → stands (change_in s d (sweep_found live o)).state y ≡ stands s y
  next x live here lives None = refl
  next x live here lives (Some e) =
      seen is_some s d x live (sweep_found live (Some e)) y here lives
      (λ own. any live e.0 (after (paged live.bytes e.1) (sweep_ring (paged live.bytes e.1))) (key_in y) (lookup (is_at (key_cmp e.0)) live.rings) refl)

  on : (x : Domain) (live : Live) → domain_of s d ≡ Some x → x.life ≡ Some live → (b : Bool) → stands (change_in s d (refuse_if (not b) NoDev (sweep_found live (next_ring serial live.rings)))).state y ≡ stands s y
  on x live here lives true = next x live here lives (next_ring serial live.rings)
  on x live here lives false = refl

-- ---- a registration

module _ (alive : ℕ → Bool) (live : Live) (fit : IsLive alive live) (key : RingKey) (len : ℕ) (pages : List ℕ) where
  abbrev pub TouchesBy : Change Live → Type 0
  TouchesBy c = TouchesLive live (after live c) key c.signals

  by_if : (test : Bool) (e : Errno) (c : Change Live) → TouchesBy c → TouchesBy (refuse_if test e c)
  by_if true e c h = touches_self live key
  by_if false e c h = h

  new_touches : own_ring live key ≡ None → TouchesBy (register_new live key len pages)
  new_touches none =
      record {
        stands = λ k apart. ap is_some (key_put_other key live.rings (after_new live key len pages) k apart);
        notices = λ k q h. note k q (is_at (key_cmp key) k) refl;
        ended = λ q h. absurd (false≢true h);
      } where
        after_new : Live → RingKey → ℕ → List ℕ → Ring
        after_new live key len pages = (started (paged live.bytes (record { serial = live.next_serial; len = len; pages = pages; tx = 0; clean = true; untaken = []; notices = [] }))).ring

        note : (k : RingKey) (q : ℕ) (b : Bool) → is_at (key_cmp key) k ≡ b → has_notice (own_ring (after live (register_new live key len pages)) k) q ≡ has_notice (own_ring live k) q
        note k q false apart = ap (λ o. has_notice o q) (key_put_other key live.rings (after_new live key len pages) k apart)
        note k q true hit =
            let same = key_same key k hit in
            ap (λ k. has_notice (own_ring (after live (register_new live key len pages)) k) q) (sym same)
            ∙ ap (λ o. has_notice o q) (key_put_same key live.rings (after_new live key len pages))
            ∙ sym (ap (λ o. has_notice o q) none) ∙ ap (λ k. has_notice (own_ring live k) q) same

  allowed : (o : Option Ring) → own_ring live key ≡ o → TouchesBy (register_allowed live key len pages o)
  allowed None is = new_touches is
  allowed (Some r) is = by (stands_so r len pages) where
    by : (b : Bool) → TouchesBy (if b then answered Done else register_anew live key r len pages)
    by true = touches_self live key
    by false = went_out (never_fits len) live key r (started (paged live.bytes (resized r len pages))) is (chosen alive live key r fit is).ring.one_notice_each refl

  pub register_touches : (fail_exist : Bool) → TouchesBy (register_own live key len pages fail_exist)
  register_touches fail_exist =
      by_if (has_ring live key && fail_exist) Exist
      (refuse_if (not (has_ring live key) && nat_le most_rings (length live.rings)) NoSpc (refuse_if (not (are_free_for live key pages)) Inval (register_allowed live key len pages (own_ring live key))))
      (by_if (not (has_ring live key) && nat_le most_rings (length live.rings)) NoSpc (refuse_if (not (are_free_for live key pages)) Inval (register_allowed live key len pages (own_ring live key)))
      (by_if (not (are_free_for live key pages)) Inval (register_allowed live key len pages (own_ring live key)) (allowed (own_ring live key) refl)))

-- a caller registers a ring
module _ (s : State) (d : ℕ) (v : IsValid s) (x : Domain) (live : Live) (here : domain_of s d ≡ Some x) (lives : x.life ≡ Some live) (r : Registration) where
  abbrev pub TouchesIn : Change Live → Type 0
  TouchesIn c = Touches s (change_in s d c).state (id_in d r.key) c.signals

  in_if : (test : Bool) (e : Errno) (c : Change Live) → TouchesIn c → TouchesIn (refuse_if test e c)
  in_if true e c h = touches_same s (id_in d r.key)
  in_if false e c h = h

  own_touches : TouchesIn (register_own live r.key r.len r.pages r.fail_exist)
  own_touches =
      let c = register_own live r.key r.len r.pages r.fail_exist in
      touches s d x live here lives c r.key c.signals (register_touches (is_alive s) live (fit_of s d x live v here lives) r.key r.len r.pages r.fail_exist)

  change_touches : TouchesIn (register_change s x live r)
  change_touches =
      let own = register_own live r.key r.len r.pages r.fail_exist in
      let off = refuse_if (is_single r.key.partner && not (is_on s r.key.partner)) ConnRefused own in
      in_if (is_single r.key.partner && not (is_alive s r.key.partner)) Srch (refuse_if (not x.on) NoDev off)
      (in_if (not x.on) NoDev off (in_if (is_single r.key.partner && not (is_on s r.key.partner)) ConnRefused own own_touches))

pub registers_touches : (s : State) (d g : ℕ) (r : Registration) → IsValid s → Touches s (act (Vcpu d g) (registers r) s).state (id_in d r.key) (registered s d g r)
registers_touches s d g r v = there (domain_of s d) refl where
  life : (x : Domain) → domain_of s d ≡ Some x → (l : Option Live) → life_in g x ≡ l
      → Touches s (act_if_live s d x l (registers r)).state (id_in d r.key) (registered_if_live s x l r)
  life x here None is = touches_same s (id_in d r.key)
  life x here (Some live) is = change_touches s d v x live here (lives_in g x live is) r

  there : (o : Option Domain) → domain_of s d ≡ o → Touches s (act_if_there s d g o (registers r)).state (id_in d r.key) (registered_if_there s g o r)
  there None here = touches_same s (id_in d r.key)
  there (Some x) here = life x here (life_in g x) refl
