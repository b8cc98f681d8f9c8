-- Laws of the rings of a state by their ids, as domains change.
use Rattle.std.proofs.Common.{◌≡◌, ◌≢◌, ℕ, Bool, true, false, cond, ◌==◌, ◌&&◌, List, [], ◌∷◌, is_some, unwrap_or, Option, Some, None, option_map, option_and_then, refl, sym, ap, ◌∙◌, arith}
use Rattle.std.specs.declared.cmp.Ordering.{Ordering}
use Rattle.std.specs.declared.cmp.Ordering.TheVariants.{Less, Equal, Greater}
use Rattle.std.specs.Ordering.{nat_cmp, ordering_then, is_eq}
use Rattle.std.specs.BTreeMap.{is_at}
use Rattle.std.proofs.lemmas.Bool.{false_from_ne_true, false≢true}
use Rattle.std.proofs.lemmas.Bool.Decides.{nat_tests}
use Rattle.touch_laws.proofs.NumberLaws.{eq_same, eq_apart, eq_self}
use Rattle.argo_base.specs.Match.{key_cmp, id_cmp, key_in}
use Rattle.argo_base.specs.declared.ring_key.RingId.{RingId}
use Rattle.argo_base.specs.declared.ring_key.RingKey.{RingKey}
use Rattle.argo_model.specs.Rules.Effects.{Change, change_in, set_left, with_life, after}
use Rattle.argo_model.specs.Rules.Register.{own_ring, has_number}
use Rattle.argo_model.specs.Rules.State.{State, Domain, Live, domain_of, set_domain, live_of, change_found, flagged, signalled, signal, signal_all}
use Rattle.domain_lists.proofs.IdLaws.{id_same}
use Rattle.touch_laws.specs.Touches.{is_touched, Touches}
use Rattle.state_laws.proofs.Domains.{get_set_other, get_set_same}
use Rattle.live_domain.specs.Keyed.{has_notice}
use Rattle.domains.specs.ById.{id_in, ring_in, ring_at, rings_in, rings_of, stands, is_noted}

-- ---- what domains have

pub live_other : (s : State) (d q : ℕ) (x : Domain) → d ≢ q → live_of (set_domain s d x) q ≡ live_of s q
live_other s d q x apart = ap (option_and_then (λ (x : Domain). x.life)) (get_set_other d x q s apart)

pub live_here : (s : State) (d : ℕ) (x y : Domain) → domain_of s d ≡ Some y → live_of (set_domain s d x) d ≡ x.life
live_here s d x y here = ap (option_and_then (λ (x : Domain). x.life)) (get_set_same d x s y here)

pub live_found : (s : State) (d : ℕ) (x : Domain) → domain_of s d ≡ Some x → live_of s d ≡ x.life
live_found s d x here = ap (option_and_then (λ (x : Domain). x.life)) here

-- what is seen of what a domain has
module _ {A : Type 0} (f : Option Live → A) where
  -- after a domain was replaced
  pub seen_set : (s : State) (d : ℕ) (x y : Domain) (q : ℕ) → domain_of s d ≡ Some y → f (live_of (set_domain s d x) q) ≡ cond (d == q) (f x.life) (f (live_of s q))
  seen_set s d x y q here = by (d == q) refl where
    by : (b : Bool) → (d == q) ≡ b → f (live_of (set_domain s d x) q) ≡ cond b (f x.life) (f (live_of s q))
    by true is = ap (λ q. f (live_of (set_domain s d x) q)) (sym (eq_same d q is)) ∙ ap f (live_here s d x y here)
    by false is = ap f (live_other s d q x (eq_apart d q is))

  -- where flags are not seen
  module _ (flags : (live : Live) → f (Some (flagged live)) ≡ f (Some live)) where
    seen_signal : (s : State) (d q : ℕ) → f (live_of (signal s d) q) ≡ f (live_of s q)
    seen_signal s d q = by (domain_of s d) refl where
      flag : (l : Option Live) → f (option_map flagged l) ≡ f l
      flag None = refl
      flag (Some live) = flags live

      by : (o : Option Domain) → domain_of s d ≡ o → f (live_of (change_found s d signalled o) q) ≡ f (live_of s q)
      by None here = refl
      by (Some x) here = seen_set s d (signalled x) x q here ∙ at (d == q) refl where
        at : (b : Bool) → (d == q) ≡ b → cond b (f (option_map flagged x.life)) (f (live_of s q)) ≡ f (live_of s q)
        at true is = flag x.life ∙ ap f (sym (live_found s d x here)) ∙ ap (λ q. f (live_of s q)) (eq_same d q is)
        at false is = refl

    pub seen_signals : (ds : List ℕ) (s : State) (q : ℕ) → f (live_of (signal_all s ds) q) ≡ f (live_of s q)
    seen_signals [] s q = refl
    seen_signals (d ∷ ds) s q = seen_signals ds (signal s d) q ∙ seen_signal s d q

    -- after a change of what a domain has
    pub seen_in_change : (s : State) (d : ℕ) (x : Domain) (live : Live) (c : Change Live) (q : ℕ) → domain_of s d ≡ Some x → x.life ≡ Some live
        → f (live_of (change_in s d c).state q) ≡ cond (d == q) (f (Some (after live c))) (f (live_of s q))
    seen_in_change s d x live c q here lives = seen_signals c.signals (set_left s d c.left) q ∙ by c.left where
      same : (b : Bool) → (d == q) ≡ b → f (live_of s q) ≡ cond b (f (Some live)) (f (live_of s q))
      same true is = ap (λ q. f (live_of s q)) (sym (eq_same d q is)) ∙ ap f (live_found s d x here ∙ lives)
      same false is = refl

      by : (o : Option Live) → f (live_of (set_left s d o) q) ≡ cond (d == q) (f (Some (unwrap_or o live))) (f (live_of s q))
      by None = same (d == q) refl
      by (Some new) = ap (λ o. f (live_of (change_found s d (with_life new) o) q)) here ∙ seen_set s d (with_life new x) x q here

-- the ring of an id after a domain was replaced
pub ring_set : (s : State) (d : ℕ) (x y : Domain) (id : RingId) → domain_of s d ≡ Some y
    → ring_at (set_domain s d x) id ≡ cond (d == id.owner) (ring_in x.life (key_in id)) (ring_at s id)
ring_set s d x y id here = seen_set (λ l. ring_in l (key_in id)) s d x y id.owner here

-- and after a change of what a domain has
pub ring_in_change : (s : State) (d : ℕ) (x : Domain) (live : Live) (c : Change Live) (id : RingId) → domain_of s d ≡ Some x → x.life ≡ Some live
    → ring_at (change_in s d c).state id ≡ cond (d == id.owner) (own_ring (after live c) (key_in id)) (ring_at s id)
ring_in_change s d x live c id here lives = seen_in_change (λ l. ring_in l (key_in id)) (λ l. refl) s d x live c id.owner here lives

-- a change that leaves nothing behind keeps all rings
pub ring_quiet : (s : State) (d : ℕ) (c : Change Live) (id : RingId) → c.left ≡ None → ring_at (change_in s d c).state id ≡ ring_at s id
ring_quiet s d c id none =
    seen_signals (λ l. ring_in l (key_in id)) (λ l. refl) c.signals (set_left s d c.left) id.owner
    ∙ ap (λ l. ring_at (set_left s d l) id) none

-- all the rings of a domain after a change of what it has
pub rings_in_change : (s : State) (d : ℕ) (x : Domain) (live : Live) (c : Change Live) → domain_of s d ≡ Some x → x.life ≡ Some live
    → rings_of (change_in s d c).state d ≡ (after live c).rings
rings_in_change s d x live c here lives =
    seen_in_change rings_in (λ l. refl) s d x live c d here lives ∙ ap (λ b. cond b (after live c).rings (rings_of s d)) (eq_self d)

-- ---- ids

equal_then : (o p q : Ordering) → is_eq o ≡ true → is_eq (ordering_then (ordering_then o p) q) ≡ is_eq (ordering_then p q)
equal_then Less p q h = cc
equal_then Equal p q h = refl
equal_then Greater p q h = cc

pub id_here : (d : ℕ) (key : RingKey) (x : RingId) → (d == x.owner) ≡ true → is_at (id_cmp (id_in d key)) x ≡ is_at (key_cmp key) (key_in x)
id_here d key x is = equal_then (nat_cmp d x.owner) (nat_cmp key.port x.port) (nat_cmp key.partner x.partner) (at d x.owner is) where
  at : (a b : ℕ) → (a == b) ≡ true → is_at (nat_cmp a) b ≡ true
  at a b h = grind (arith, nat_tests)

pub id_there : (d : ℕ) (key : RingKey) (x : RingId) → (d == x.owner) ≡ false → is_at (id_cmp (id_in d key)) x ≡ false
id_there d key x apart = false_from_ne_true (is_at (id_cmp (id_in d key)) x) (λ h. eq_apart d x.owner apart (ap (λ (i : RingId). i.owner) (id_same (id_in d key) x h)))

-- ---- acts that touch one ring

-- what a domain has after such an act
pub record TouchesLive (live new : Live) (key : RingKey) (doms : List ℕ) : Type 0 where
  pub stands : (k : RingKey) → is_at (key_cmp key) k ≡ false → is_some (own_ring new k) ≡ is_some (own_ring live k)
  pub notices : (k : RingKey) (d : ℕ) → (has_number doms d && is_at (key_cmp key) k) ≡ false → has_notice (own_ring new k) d ≡ has_notice (own_ring live k) d
  pub ended : (d : ℕ) → has_number doms d ≡ true → has_notice (own_ring new key) d ≡ false

pub touches_self : (live : Live) (key : RingKey) → TouchesLive live live key []
touches_self live key = record { stands = λ k h. refl; notices = λ k d h. refl; ended = λ d h. absurd (false≢true h) }

pub touches_same : (s : State) (id : RingId) → Touches s s id []
touches_same s id = record { stands = λ k h. refl; notices = λ k d h. refl; ended = λ d h. absurd (false≢true h) }

module _ (s : State) (d : ℕ) (x : Domain) (live : Live) (here : domain_of s d ≡ Some x) (lives : x.life ≡ Some live) where
  found_ring : (id : RingId) → (d == id.owner) ≡ true → ring_at s id ≡ own_ring live (key_in id)
  found_ring id is = ap (λ q. ring_in (live_of s q) (key_in id)) (sym (eq_same d id.owner is)) ∙ ap (λ l. ring_in l (key_in id)) (live_found s d x here ∙ lives)

  pub touches : (c : Change Live) (key : RingKey) (doms : List ℕ) → TouchesLive live (after live c) key doms → Touches s (change_in s d c).state (id_in d key) doms
  touches c key doms t =
      record {
        stands = λ y apart. ap is_some (ring_in_change s d x live c y here lives) ∙ stand y apart (d == y.owner) refl;
        notices = λ y q apart. ap (λ r. has_notice r q) (ring_in_change s d x live c y here lives) ∙ note y q apart (d == y.owner) refl;
        ended = λ q h. ap (λ r. has_notice r q) (ring_in_change s d x live c (id_in d key) here lives)
            ∙ ap (λ b. has_notice (cond b (own_ring (after live c) key) (ring_at s (id_in d key))) q) (eq_self d) ∙ t.ended q h;
      } where
        stand : (y : RingId) → is_at (id_cmp (id_in d key)) y ≡ false → (b : Bool) → (d == y.owner) ≡ b
            → is_some (cond b (own_ring (after live c) (key_in y)) (ring_at s y)) ≡ stands s y
        stand y apart true is = t.stands (key_in y) (sym (id_here d key y is) ∙ apart) ∙ ap is_some (sym (found_ring y is))
        stand y apart false is = refl

        note : (y : RingId) (q : ℕ) → is_touched (id_in d key) doms y q ≡ false → (b : Bool) → (d == y.owner) ≡ b
            → has_notice (cond b (own_ring (after live c) (key_in y)) (ring_at s y)) q ≡ is_noted s y q
        note y q apart true is = t.notices (key_in y) q (ap (λ b. has_number doms q && b) (sym (id_here d key y is)) ∙ apart) ∙ ap (λ r. has_notice r q) (sym (found_ring y is))
        note y q apart false is = refl
