-- Laws of a domain of which the lists name nothing any more: there is nothing to forget of it.
use Rattle.std.proofs.Common.{◌≡◌, ℕ, ◌<◌, Bool, true, false, ◌==◌, ◌&&◌, ◌||◌, not, List, [], ◌∷◌, filter, map, fold, is_some, cond, Option, Some, None, option_map, option_and_then, ⊎_elim, inl, inr, refl, sym, ap, ◌∙◌, subst, arith}
use Rattle.std.specs.Ordering.{nat_cmp}
use Rattle.std.specs.Map.{lookup}
use Rattle.std.specs.BTreeMap.{is_at, insert_entry}
use Rattle.std.proofs.lemmas.Bool.{false≢true}
use Rattle.std.proofs.lemmas.Bool.Decides.{nat_tests}
use Rattle.std.proofs.Math.Bool.{and-false}
use Rattle.argo_base.specs.Match.{key_cmp, key_in, is_wildcard}
use Rattle.argo_base.specs.Notices.{size_of}
use Rattle.argo_base.specs.RingIds.{has_id}
use Rattle.argo_base.specs.declared.ring_key.RingId.{RingId}
use Rattle.argo_base.specs.declared.ring_key.RingKey.{RingKey}
use Rattle.argo_model.specs.declared.scripts.DomainLine.{DomainLine}
use Rattle.argo_model.specs.Rules.Destroy.{ring_without, rings_without, live_without, forget}
use Rattle.argo_model.specs.Rules.Register.{own_ring}
use Rattle.argo_model.specs.Rules.State.{State, Domain, Live, Ring, domain_of, live_of, is_alive, change_life, fresh_domain, start_state}
use Rattle.domain_lists.specs.Lists.{RingLists, ids_of, names}
use Rattle.plain_world.specs.Levels.{Levels, AreLevel}
use Rattle.touch_laws.proofs.EndLaws.{removed_none}
use Rattle.touch_laws.proofs.LeftLaws.{fit_of}
use Rattle.touch_laws.proofs.RingLaws.{live_found}
use Rattle.state_laws.specs.Each.{Each, EachTwo}
use Rattle.state_laws.specs.Valid.{IsLive, IsNotice, IsValid}
use Rattle.state_laws.proofs.Lists.{each_found}
use Rattle.state_laws.proofs.Lives.{In, each_in, lookup_in, chosen}
use Rattle.state_laws.proofs.Rising.{is_at_same, is_at_not, is_at_self, each_rising}
use Rattle.state_laws.proofs.StateActs.{valid_start}
use Rattle.live_domain.specs.Keyed.{has_notice}
use Rattle.domains.specs.ById.{id_in, rings_in, ring_in, ring_at, stands, is_noted}

-- a domain among others is found
domain_in : (s : State) (e : ℕ × Domain) → EachTwo (λ (a b : ℕ × Domain). a.0 < b.0) s → In e s → domain_of s e.0 ≡ Some e.1
domain_in [] e rises i = absurd i
domain_in (f ∷ fs) e rises i = ⊎_elim (λ same. first same) (λ later. behind later (domain_in fs e rises.1 later)) i where
  first : f ≡ e → lookup (is_at (nat_cmp e.0)) (f ∷ fs) ≡ Some e.1
  first same =
      let k : is_at (nat_cmp e.0) f.0 ≡ true = subst (λ (g : ℕ × Domain). is_at (nat_cmp e.0) g.0 ≡ true) (sym same) (is_at_self e.0) in
      ap (λ (b : Bool). cond b (Some f.1) (lookup (is_at (nat_cmp e.0)) fs)) k ∙ ap (λ (g : ℕ × Domain). Some g.1) same

  behind : In e fs → lookup (is_at (nat_cmp e.0)) fs ≡ Some e.1 → lookup (is_at (nat_cmp e.0)) (f ∷ fs) ≡ Some e.1
  behind later rest =
      let below = each_in (λ (g : ℕ × Domain). f.0 < g.0) e fs later rises.0 in
      ap (λ (b : Bool). cond b (Some f.1) (lookup (is_at (nat_cmp e.0)) fs)) (is_at_not e.0 f.0 (λ same. not_below f.0 e.0 same below)) ∙ rest where
        not_below : (a b : ℕ) → b ≡ a → a < b → ⊥
        not_below a b same l = omega arith

-- entries that stay as they are
map_stays : {K X : Type 0} (f : X → X) (es : List (K × X)) → ((e : K × X) → In e es → f e.1 ≡ e.1) → map (λ (e : K × X). (e.0, f e.1)) es ≡ es
map_stays f [] same = refl
map_stays {K} {X} f (e ∷ es) same =
    ap (λ (x : X). (e.0, x) ∷ map (λ (e : K × X). (e.0, f e.1)) es) (same e (inl refl)) ∙ ap (λ r. e ∷ r) (map_stays f es (λ g i. same g (inr i)))

filter_stays : {X : Type 0} (test : X → Bool) (es : List X) → ((e : X) → In e es → test e ≡ true) → filter test es ≡ es
filter_stays test [] same = refl
filter_stays {X} test (e ∷ es) same =
    ap (λ (b : Bool). cond b (e ∷ filter test es) (filter test es)) (same e (inl refl)) ∙ ap (λ r. e ∷ r) (filter_stays test es (λ g i. same g (inr i)))

not_noted : (r : Ring) (d : ℕ) → is_some (size_of r.notices d) ≡ false → ring_without d r ≡ r
not_noted r d none = ap (λ ns. record r { notices = ns }) (removed_none (is_at (nat_cmp d)) r.notices (by (size_of r.notices d) none)) where
  by : (o : Option ℕ) → is_some o ≡ false → o ≡ None
  by None h = refl
  by (Some n) h = cc

module _ (s : State) (d : ℕ) (for : (id : RingId) → stands s id ≡ true → (id.partner == d) ≡ false) (none : (id : RingId) → is_noted s id d ≡ false) (o : ℕ) (live : Live)
    (lives : live_of s o ≡ Some live) (fit : IsLive (is_alive s) live) where
  at : (e : RingKey × Ring) → In e live.rings → ring_at s (id_in o e.0) ≡ Some e.1
  at e i = ap (λ l. ring_in l e.0) lives ∙ lookup_in live.rings e fit.apart i

  rings_stay : rings_without d live.rings ≡ live.rings
  rings_stay =
      ap (map (λ (e : RingKey × Ring). (e.0, ring_without d e.1))) (filter_stays (λ (e : RingKey × Ring). not (e.0.partner == d)) live.rings (λ e i. ap not (for (id_in o e.0) (ap is_some (at e i)))))
      ∙ map_stays (ring_without d) live.rings (λ e i. not_noted e.1 d (sym (ap (λ r. has_notice r d) (at e i)) ∙ none (id_in o e.0)))

pub nothing_left : (s : State) (d : ℕ) → IsValid s → ((id : RingId) → stands s id ≡ true → (id.partner == d) ≡ false) → ((id : RingId) → is_noted s id d ≡ false) → forget s d ≡ s
nothing_left s d v for none = map_stays (change_life (live_without d)) s (λ e i. domain e (domain_in s e v.one_domain_each i) e.1.life refl) where
  domain : (e : ℕ × Domain) → domain_of s e.0 ≡ Some e.1 → (l : Option Live) → e.1.life ≡ l → change_life (live_without d) e.1 ≡ e.1
  domain e here None is =
      ap (λ l. record e.1 { life = option_map (live_without d) l }) is ∙ ap (λ l. record e.1 { life = l }) (sym is)
  domain e here (Some live) is =
      ap (λ l. record e.1 { life = option_map (live_without d) l }) is
      ∙ ap (λ rs. record e.1 { life = Some (record live { rings = rs }) }) (rings_stay s d for none e.0 live (live_found s e.0 e.1 here ∙ is) (fit_of s e.0 e.1 live v here is))
      ∙ ap (λ l. record e.1 { life = l }) (sym is)

-- nobody but its partner waits on a ring for one domain
not_waiting : (s : State) (id : RingId) (d : ℕ) → IsValid s → is_wildcard id.partner ≡ false → (id.partner == d) ≡ false → is_noted s id d ≡ false
not_waiting s id d v single apart = life (domain_of s id.owner) refl where
  number : (a b : ℕ) → a ≡ b → (a == b) ≡ true
  number a b h = grind (arith, nat_tests)

  noted : (alive : ℕ → Bool) (r : Ring) → Each (IsNotice alive (key_in id) r.len) r.notices → (o : Option ℕ) → size_of r.notices d ≡ o → is_some o ≡ false
  noted alive r each None is = refl
  noted alive r each (Some n) is =
      let h = each_found (IsNotice alive (key_in id) r.len) (is_at (nat_cmp d)) r.notices n is each in
      let same = is_at_same d h.0 h.1 in
      absurd (false≢true (sym (ap (λ b. b || (id.partner == h.0)) single ∙ ap (λ q. id.partner == q) (sym same) ∙ apart) ∙ h.2.may_wait))

  living : (x : Domain) → domain_of s id.owner ≡ Some x → (l : Option Live) → x.life ≡ l → has_notice (ring_in l (key_in id)) d ≡ false
  living x here None is = refl
  living x here (Some live) is = by (own_ring live (key_in id)) refl where
    by : (o : Option Ring) → own_ring live (key_in id) ≡ o → has_notice o d ≡ false
    by None none = refl
    by (Some r) found = noted (is_alive s) r (chosen (is_alive s) live (key_in id) r (fit_of s id.owner x live v here is) found).ring.notices (size_of r.notices d) refl

  life : (o : Option Domain) → domain_of s id.owner ≡ o → is_noted s id d ≡ false
  life None here = ap (λ (y : Option Domain). has_notice (ring_in (option_and_then (λ (x : Domain). x.life) y) (key_in id)) d) here
  life (Some x) here = ap (λ l. has_notice (ring_in l (key_in id)) d) (live_found s id.owner x here) ∙ living x here x.life refl

-- empty lists name nothing
unnamed : (lists : RingLists) (d : ℕ) (id : RingId) → ids_of lists d ≡ [] → names lists d id ≡ false
unnamed lists d id none = ap (λ l. has_id l id) none

pub all_forgotten : (w : Levels) (d : ℕ) → AreLevel w → ids_of w.sends d ≡ [] → ids_of w.waits d ≡ [] → forget w.state d ≡ w.state
all_forgotten w d level sends waits = nothing_left w.state d level.valid for none where
  for : (id : RingId) → stands w.state id ≡ true → (id.partner == d) ≡ false
  for id there =
      let h = sym (level.sends d id) ∙ unnamed w.sends d id sends in
      by (id.partner == d) (ap (λ b. (id.partner == d) && b) (sym there) ∙ h) where
        by : (b : Bool) → (b && true) ≡ false → b ≡ false
        by true h = cc
        by false h = refl

  none : (id : RingId) → is_noted w.state id d ≡ false
  none id = wild (is_wildcard id.partner) refl where
    single : is_wildcard id.partner ≡ false → (b : Bool) → stands w.state id ≡ b → is_noted w.state id d ≡ false
    single is true there = not_waiting w.state id d level.valid is (for id there)
    single is false gone = by (ring_at w.state id) gone where
      by : (o : Option Ring) → is_some o ≡ false → has_notice o d ≡ false
      by None h = refl
      by (Some r) h = cc

    wild : (b : Bool) → is_wildcard id.partner ≡ b → is_noted w.state id d ≡ false
    wild true is = ap (λ b. b && is_noted w.state id d) (sym is) ∙ sym (level.waits d id) ∙ unnamed w.waits d id waits
    wild false is = single is (stands w.state id) refl

-- ---- the start

no_rings : (s : State) → Each (λ (e : ℕ × Domain). rings_in e.1.life ≡ []) s → (id : RingId) → ring_at s id ≡ None
no_rings s none id = by (domain_of s id.owner) refl where
  life : (l : Option Live) → rings_in l ≡ [] → ring_in l (key_in id) ≡ None
  life None h = refl
  life (Some live) h = ap (lookup (is_at (key_cmp (key_in id)))) h

  by : (o : Option Domain) → domain_of s id.owner ≡ o → ring_at s id ≡ None
  by None here = ap (λ (y : Option Domain). ring_in (option_and_then (λ (x : Domain). x.life) y) (key_in id)) here
  by (Some x) here =
      ap (λ l. ring_in l (key_in id)) (live_found s id.owner x here)
      ∙ life x.life (each_found (λ (e : ℕ × Domain). rings_in e.1.life ≡ []) (is_at (nat_cmp id.owner)) s x here none).2

started : (lines : List DomainLine) (s : State) → Each (λ (e : ℕ × Domain). rings_in e.1.life ≡ []) s
    → Each (λ (e : ℕ × Domain). rings_in e.1.life ≡ []) (fold (λ s l. insert_entry nat_cmp s l.id (fresh_domain l)) s lines)
started [] s none = none
started (l ∷ ls) s none = started ls (insert_entry nat_cmp s l.id (fresh_domain l)) (each_rising (λ (e : ℕ × Domain). rings_in e.1.life ≡ []) s l.id (fresh_domain l) none refl)

pub level_start : (lines : List DomainLine) → AreLevel (record { state = start_state lines; sends = []; waits = [] })
level_start lines = record {
  valid = valid_start lines;
  sends = λ d id. sym (ap (λ r. (id.partner == d) && is_some r) (none id) ∙ and-false (id.partner == d));
  waits = λ d id. sym (ap (λ r. is_wildcard id.partner && has_notice r d) (none id) ∙ and-false (is_wildcard id.partner));
} where
  none : (id : RingId) → ring_at (start_state lines) id ≡ None
  none = no_rings (start_state lines) (started lines [] tt)
