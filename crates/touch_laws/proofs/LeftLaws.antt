-- Laws of what is left after a ring or a notice ended: valid states, as the lists see them, and nothing to forget in the end.
use Rattle.std.proofs.Common.{◌≡◌, ℕ, ◌-◌, ◌<◌, Bool, true, false, ◌==◌, ◌&&◌, IfSome, List, [], ◌∷◌, ◌++◌, length, is_some, Option, Some, None, option_map, option_and_then, cond, refl, sym, ap, ◌∙◌, subst, arith}
use Rattle.std.specs.Ordering.{nat_cmp}
use Rattle.std.specs.Map.{lookup, set_value, remove_entry}
use Rattle.std.specs.BTreeMap.{is_at}
use Rattle.std.proofs.lemmas.Bool.{false≢true}
use Rattle.std.proofs.lemmas.Map.Steps.{set_value_same}
use Rattle.touch_laws.proofs.NumberLaws.{eq_same, eq_apart, eq_self}
use Rattle.std.proofs.Math.Bool.{and-true, or-false}
use Rattle.argo_base.specs.Match.{key_cmp, id_cmp, key_in}
use Rattle.argo_base.specs.Notices.{withdrawn}
use Rattle.argo_base.specs.declared.ring_key.RingId.{RingId}
use Rattle.argo_base.specs.declared.ring_key.RingKey.{RingKey}
use Rattle.argo_model.specs.declared.action.Outcome.TheVariants.{Done}
use Rattle.argo_model.specs.Rules.Destroy.{ring_without}
use Rattle.argo_model.specs.Rules.Effects.{change_in, leaving, with_life}
use Rattle.argo_model.specs.Rules.Register.{own_ring, without_ring, has_number}
use Rattle.argo_model.specs.Rules.RingBytes.{ring_bytes}
use Rattle.argo_model.specs.Rules.State.{State, Domain, Live, Ring, domain_of, set_domain, live_of, is_alive, change_found, change_domain, change_life}
use Rattle.touch_laws.specs.Touches.{is_touched}
use Rattle.touch_laws.proofs.ActLaws.{seen}
use Rattle.touch_laws.proofs.EndLaws.{removed_none}
use Rattle.touch_laws.proofs.NoticeLaws.{withdrawn_other, key_set_other, key_set_same, key_removed_other, none_apart}
use Rattle.touch_laws.proofs.RingLaws.{live_found, live_here, live_other, ring_in_change, id_here}
use Rattle.state_laws.specs.Valid.{IsLive, IsRing, IsNotice, AreApart, KeepsUntaken, IsValid}
use Rattle.state_laws.proofs.Domains.{kept_in, valid_kept, fit_found}
use Rattle.state_laws.proofs.Lists.{each_put, two_put, each_weak}
use Rattle.state_laws.proofs.Lives.{chosen, length-mid, key_same, apart_turned}
use Rattle.state_laws.proofs.Rising.{none_removed, rising_remove, each_remove, few_withdrawn, absent}
use Rattle.live_domain.specs.Keyed.{has_notice, without_notice, without_notice_of}
use Rattle.domains.specs.ById.{end_key, ring_ended, forget_key, notice_ended, rings_in, rings_of, ring_in, ring_at, stands, is_noted}

-- a change of what a domain has, where it is alive
pub as_change : (s : State) (o : ℕ) (f : Live → Live) (x : Domain) (live : Live) → domain_of s o ≡ Some x → x.life ≡ Some live
    → change_domain s o (change_life f) ≡ (change_in s o (leaving Done (f live))).state
as_change s o f x live here lives =
    ap (change_found s o (change_life f)) here
    ∙ ap (λ l. set_domain s o (record x { life = option_map f l })) lives
    ∙ sym (ap (change_found s o (with_life (f live))) here)

pub change_cases : (P : State → Type 0) (s : State) (o : ℕ) (f : Live → Live) → (live_of s o ≡ None → P s)
    → ((x : Domain) (live : Live) → domain_of s o ≡ Some x → x.life ≡ Some live → P (change_in s o (leaving Done (f live))).state) → P (change_domain s o (change_life f))
change_cases P s o f none some = by (domain_of s o) refl where
  life : (x : Domain) → domain_of s o ≡ Some x → (l : Option Live) → x.life ≡ l → P (change_domain s o (change_life f))
  life x here None is =
      subst P
      (sym (ap (change_found s o (change_life f)) here ∙ ap (λ l. set_domain s o (record x { life = option_map f l })) is
      ∙ ap (λ l. set_domain s o (record x { life = l })) (sym is) ∙ set_value_same (is_at (nat_cmp o)) s x here))
      (none (live_found s o x here ∙ is))
  life x here (Some live) is = subst P (sym (as_change s o f x live here is)) (some x live here is)

  by : (y : Option Domain) → domain_of s o ≡ y → P (change_domain s o (change_life f))
  by None here = subst P (sym (ap (change_found s o (change_life f)) here)) (none (ap (λ (y : Option Domain). option_and_then (λ (x : Domain). x.life) y) here))
  by (Some x) here = life x here x.life refl

pub fit_of : (s : State) (o : ℕ) (x : Domain) (live : Live) → IsValid s → domain_of s o ≡ Some x → x.life ≡ Some live → IsLive (is_alive s) live
fit_of s o x live v here lives = subst (λ (l : Option Live). IfSome l (IsLive (is_alive s))) lives (fit_found (is_alive s) s o x here v.lives)

found_at : (s : State) (id : RingId) (x : Domain) (live : Live) → domain_of s id.owner ≡ Some x → x.life ≡ Some live → ring_at s id ≡ own_ring live (key_in id)
found_at s id x live here lives = ap (λ l. ring_in l (key_in id)) (live_found s id.owner x here ∙ lives)

-- ---- a ring ended

module _ (s : State) (id : RingId) where
  pub ended_other : (y : RingId) → is_at (id_cmp id) y ≡ false → ring_at (ring_ended s id) y ≡ ring_at s y
  ended_other y apart = change_cases (λ t. ring_at t y ≡ ring_at s y) s id.owner (end_key id) (λ none. refl)
      (λ x live here lives. seen (λ r. r) s id.owner x live (leaving Done (end_key id live)) y here lives
      (λ own. key_removed_other (key_in id) live.rings (key_in y) (sym (id_here id.owner (key_in id) y own) ∙ apart)))

  gone_of : (live : Live) → IsLive (is_alive s) live → own_ring (without_ring live (key_in id)) (key_in id) ≡ None
  gone_of live fit = by (own_ring live (key_in id)) refl where
    by : (o : Option Ring) → own_ring live (key_in id) ≡ o → own_ring (without_ring live (key_in id)) (key_in id) ≡ None
    by None none = ap (lookup (is_at (key_cmp (key_in id)))) (removed_none (is_at (key_cmp (key_in id))) live.rings none) ∙ none
    by (Some r) found =
        let c = chosen (is_alive s) live (key_in id) r fit found in
        ap (lookup (is_at (key_cmp (key_in id)))) c.without ∙ none_apart (key_in id) (c.before ++ c.after) r c.apart

  pub ended_here : IsValid s → ring_at (ring_ended s id) id ≡ None
  ended_here v = change_cases (λ t. ring_at t id ≡ None) s id.owner (end_key id) (λ none. ap (λ l. ring_in l (key_in id)) none)
      (λ x live here lives. ring_in_change s id.owner x live (leaving Done (end_key id live)) id here lives
      ∙ ap (λ b. cond b (own_ring (without_ring live (key_in id)) (key_in id)) (ring_at s id)) (eq_self id.owner)
      ∙ gone_of live (fit_of s id.owner x live v here lives))

  live_end : (alive : ℕ → Bool) (live : Live) → IsLive alive live → IsLive alive (without_ring live (key_in id))
  live_end alive live fit = by (own_ring live (key_in id)) refl where
    by : (o : Option Ring) → own_ring live (key_in id) ≡ o → IsLive alive (without_ring live (key_in id))
    by None none = subst (λ (rs : List (RingKey × Ring)). IsLive alive (record live { rings = rs })) (sym (removed_none (is_at (key_cmp (key_in id))) live.rings none)) fit
    by (Some r) found =
        let c = chosen alive live (key_in id) r fit found in
        let n = length-mid (key_in id, r) c.before c.after in
        let few = c.few in
        subst (λ (rs : List (RingKey × Ring)). IsLive alive (record live { rings = rs })) (sym c.without)
        (record { few_rings = omega arith; serials_are_made = c.serials; rings = c.rings; apart = c.two })

  pub valid_end : IsValid s → IsValid (ring_ended s id)
  valid_end v = change_cases IsValid s id.owner (end_key id) (λ none. v)
      (λ x live here lives. valid_kept s (change_in s id.owner (leaving Done (end_key id live))).state
      (kept_in (is_alive s) s id.owner (leaving Done (end_key id live)) (live_end (is_alive s) live (fit_of s id.owner x live v here lives)) v.one_domain_each v.lives))

  -- the owner has one ring fewer
  pub one_fewer : IsValid s → stands s id ≡ true → length (rings_of (ring_ended s id) id.owner) ≡ length (rings_of s id.owner) - 1
  one_fewer v there = change_cases (λ t. length (rings_of t id.owner) ≡ length (rings_of s id.owner) - 1) s id.owner (end_key id)
      (λ none. absurd (false≢true (sym (ap (λ l. is_some (ring_in l (key_in id))) none) ∙ there)))
      (λ x live here lives. count x live here lives (own_ring live (key_in id)) refl) where
        count : (x : Domain) (live : Live) → domain_of s id.owner ≡ Some x → x.life ≡ Some live → (o : Option Ring) → own_ring live (key_in id) ≡ o
            → length (rings_of (change_in s id.owner (leaving Done (end_key id live))).state id.owner) ≡ length (rings_of s id.owner) - 1
        count x live here lives None none = absurd (false≢true (sym (ap is_some (found_at s id x live here lives ∙ none)) ∙ there))
        count x live here lives (Some r) found =
            let c = chosen (is_alive s) live (key_in id) r (fit_of s id.owner x live v here lives) found in
            let new : rings_of (change_in s id.owner (leaving Done (end_key id live))).state id.owner ≡ c.before ++ c.after =
            ap (λ y. rings_of (change_found s id.owner (with_life (end_key id live)) y) id.owner) here
            ∙ ap rings_in (live_here s id.owner (with_life (end_key id live) x) x here) ∙ c.without in
            let old : rings_of s id.owner ≡ c.before ++ (key_in id, r) ∷ c.after = ap rings_in (live_found s id.owner x here ∙ lives) ∙ c.whole in
            let a = ap length new in
            let b = ap length old in
            let n = length-mid (key_in id, r) c.before c.after in
            omega arith

  -- a domain without rings has none afterwards
  pub still_none : (d : ℕ) → rings_of s d ≡ [] → rings_of (ring_ended s id) d ≡ []
  still_none d none = change_cases (λ t. rings_of t d ≡ []) s id.owner (end_key id) (λ n. none)
      (λ x live here lives. by x live here lives (id.owner == d) refl) where
        by : (x : Domain) (live : Live) → domain_of s id.owner ≡ Some x → x.life ≡ Some live → (b : Bool) → (id.owner == d) ≡ b
            → rings_of (change_in s id.owner (leaving Done (end_key id live))).state d ≡ []
        by x live here lives true is =
            let same = eq_same id.owner d is in
            let rings : live.rings ≡ [] = sym (ap rings_in (live_found s id.owner x here ∙ lives)) ∙ ap (rings_of s) same ∙ none in
            ap (rings_of (change_in s id.owner (leaving Done (end_key id live))).state) (sym same)
            ∙ ap (λ y. rings_of (change_found s id.owner (with_life (end_key id live)) y) id.owner) here
            ∙ ap rings_in (live_here s id.owner (with_life (end_key id live) x) x here)
            ∙ ap (remove_entry (is_at (key_cmp (key_in id)))) rings
        by x live here lives false is =
            ap (λ y. rings_of (change_found s id.owner (with_life (end_key id live)) y) d) here
            ∙ ap rings_in (live_other s id.owner d (with_life (end_key id live) x) (eq_apart id.owner d is)) ∙ none

-- ---- a notice ended

module _ (s : State) (id : RingId) (d : ℕ) where
  seen_other : {A : Type 0} (f : Option Ring → A) (live : Live) (o : Option Ring) → own_ring live (key_in id) ≡ o → (k : RingKey)
      → (is_at (key_cmp (key_in id)) k ≡ true → (r : Ring) → f (Some (ring_without d r)) ≡ f (Some r))
      → f (own_ring (without_notice_of live (key_in id) d o) k) ≡ f (own_ring live k)
  seen_other f live None is k same = refl
  seen_other f live (Some r) is k same = by (is_at (key_cmp (key_in id)) k) refl where
    by : (b : Bool) → is_at (key_cmp (key_in id)) k ≡ b → f (lookup (is_at (key_cmp k)) (set_value (is_at (key_cmp (key_in id))) live.rings (ring_without d r))) ≡ f (own_ring live k)
    by true hit =
        let k_is = key_same (key_in id) k hit in
        ap (λ q. f (lookup (is_at (key_cmp q)) (set_value (is_at (key_cmp (key_in id))) live.rings (ring_without d r)))) (sym k_is)
        ∙ ap f (key_set_same (key_in id) live.rings (ring_without d r) r is) ∙ same hit r ∙ ap f (sym is) ∙ ap (λ q. f (own_ring live q)) k_is
    by false apart = ap f (key_set_other (key_in id) live.rings (ring_without d r) k apart)

  pub noted_stands : (y : RingId) → stands (notice_ended s id d) y ≡ stands s y
  noted_stands y = change_cases (λ t. stands t y ≡ stands s y) s id.owner (forget_key id d) (λ none. refl)
      (λ x live here lives. seen is_some s id.owner x live (leaving Done (forget_key id d live)) y here lives
      (λ own. seen_other is_some live (own_ring live (key_in id)) refl (key_in y) (λ hit r. refl)))

  pub noted_apart : (y : RingId) (q : ℕ) → is_touched id (d ∷ []) y q ≡ false → is_noted (notice_ended s id d) y q ≡ is_noted s y q
  noted_apart y q apart = change_cases (λ t. is_noted t y q ≡ is_noted s y q) s id.owner (forget_key id d) (λ none. refl)
      (λ x live here lives. seen (λ r. has_notice r q) s id.owner x live (leaving Done (forget_key id d live)) y here lives
      (λ own. seen_other (λ r. has_notice r q) live (own_ring live (key_in id)) refl (key_in y)
      (λ hit r. ap is_some (withdrawn_other d r.notices q (other own hit))))) where
        other : (id.owner == y.owner) ≡ true → is_at (key_cmp (key_in id)) (key_in y) ≡ true → (d == q) ≡ false
        other own hit = sym (or-false (d == q)) ∙ sym (and-true (has_number (d ∷ []) q)) ∙ ap (λ b. has_number (d ∷ []) q && b) (sym (id_here id.owner (key_in id) y own ∙ hit)) ∙ apart

  pub noted_here : IsValid s → is_noted (notice_ended s id d) id d ≡ false
  noted_here v = change_cases (λ t. is_noted t id d ≡ false) s id.owner (forget_key id d) (λ none. ap (λ l. has_notice (ring_in l (key_in id)) d) none)
      (λ x live here lives. ap (λ r. has_notice r d) (ring_in_change s id.owner x live (leaving Done (forget_key id d live)) id here lives)
      ∙ ap (λ b. has_notice (cond b (own_ring (forget_key id d live) (key_in id)) (ring_at s id)) d) (eq_self id.owner)
      ∙ by live (fit_of s id.owner x live v here lives) (own_ring live (key_in id)) refl) where
        by : (live : Live) → IsLive (is_alive s) live → (o : Option Ring) → own_ring live (key_in id) ≡ o → has_notice (own_ring (without_notice_of live (key_in id) d o) (key_in id)) d ≡ false
        by live fit None is = ap (λ r. has_notice r d) is
        by live fit (Some r) is =
            ap (λ r. has_notice r d) (key_set_same (key_in id) live.rings (ring_without d r) r is)
            ∙ ap is_some (absent d (withdrawn r.notices d) (none_removed d r.notices (chosen (is_alive s) live (key_in id) r fit is).ring.one_notice_each))

  live_notice : (alive : ℕ → Bool) (live : Live) → IsLive alive live → IsLive alive (without_notice live (key_in id) d)
  live_notice alive live fit = by (own_ring live (key_in id)) refl where
    kept : (memory : List ℕ) (key : RingKey) (r : Ring) → IsRing alive memory (key, r) → IsRing alive memory (key, ring_without d r)
    kept memory key r g = record {
      legal = g.legal;
      paged = g.paged;
      pages_are_there = g.pages_are_there;
      pages_differ = g.pages_differ;
      tx_is_place = g.tx_is_place;
      untaken = clean r.clean g.untaken;
      one_notice_each = rising_remove (is_at (nat_cmp d)) r.notices g.one_notice_each;
      few_notices = few_withdrawn r.notices d g.few_notices;
      notices = each_remove (IsNotice alive key r.len) (is_at (nat_cmp d)) r.notices g.notices;
    } where
      clean : (b : Bool) → KeepsUntaken b (ring_bytes memory r.pages) r → KeepsUntaken b (ring_bytes memory r.pages) (ring_without d r)
      clean true k = record { rx_is_place = k.rx_is_place; tx_is_word = k.tx_is_word; holds = k.holds }
      clean false k = k

    by : (o : Option Ring) → own_ring live (key_in id) ≡ o → IsLive alive (without_notice_of live (key_in id) d o)
    by None is = fit
    by (Some r) is =
        let c = chosen alive live (key_in id) r fit is in
        let n = length-mid (key_in id, r) c.before c.after in
        let m = length-mid (key_in id, ring_without d r) c.before c.after in
        let few = c.few in
        subst (λ (rs : List (RingKey × Ring)). IsLive alive (record live { rings = rs })) (sym (c.changed (ring_without d r)))
        (record {
          few_rings = omega arith;
          serials_are_made = each_put (λ (e : RingKey × Ring). e.1.serial < live.next_serial) (key_in id, ring_without d r) c.before c.after c.made c.serials;
          rings = each_put (IsRing alive live.bytes) (key_in id, ring_without d r) c.before c.after (kept live.bytes (key_in id) r c.ring) c.rings;
          apart = two_put AreApart apart_turned (key_in id, ring_without d r) c.before c.after
              (each_weak (AreApart (key_in id, r)) (AreApart (key_in id, ring_without d r)) (λ e a. record { keys = a.keys; serials = a.serials; pages = a.pages }) (c.before ++ c.after) c.apart) c.two;
        })

  pub valid_notice : IsValid s → IsValid (notice_ended s id d)
  valid_notice v = change_cases IsValid s id.owner (forget_key id d) (λ none. v)
      (λ x live here lives. valid_kept s (change_in s id.owner (leaving Done (forget_key id d live))).state
      (kept_in (is_alive s) s id.owner (leaving Done (forget_key id d live)) (live_notice (is_alive s) live (fit_of s id.owner x live v here lives)) v.one_domain_each v.lives))

  pub none_noted : (q : ℕ) → rings_of s q ≡ [] → rings_of (notice_ended s id d) q ≡ []
  none_noted q none = change_cases (λ t. rings_of t q ≡ []) s id.owner (forget_key id d) (λ n. none)
      (λ x live here lives. by x live here lives (id.owner == q) refl) where
        empty : (live : Live) → live.rings ≡ [] → (o : Option Ring) → (without_notice_of live (key_in id) d o).rings ≡ []
        empty live none None = none
        empty live none (Some r) = ap (λ (rs : List (RingKey × Ring)). set_value (is_at (key_cmp (key_in id))) rs (ring_without d r)) none

        by : (x : Domain) (live : Live) → domain_of s id.owner ≡ Some x → x.life ≡ Some live → (b : Bool) → (id.owner == q) ≡ b
            → rings_of (change_in s id.owner (leaving Done (forget_key id d live))).state q ≡ []
        by x live here lives true is =
            let same = eq_same id.owner q is in
            let rings : live.rings ≡ [] = sym (ap rings_in (live_found s id.owner x here ∙ lives)) ∙ ap (rings_of s) same ∙ none in
            ap (rings_of (change_in s id.owner (leaving Done (forget_key id d live))).state) (sym same)
            ∙ ap (λ y. rings_of (change_found s id.owner (with_life (forget_key id d live)) y) id.owner) here
            ∙ ap rings_in (live_here s id.owner (with_life (forget_key id d live) x) x here)
            ∙ empty live rings (own_ring live (key_in id))
        by x live here lives false is =
            ap (λ y. rings_of (change_found s id.owner (with_life (forget_key id d live)) y) q) here
            ∙ ap rings_in (live_other s id.owner q (with_life (forget_key id d live) x) (eq_apart id.owner q is)) ∙ none
