-- Laws of a domain without rings that ends, or is reset: nothing changes for the lists.
use Rattle.std.proofs.Common.{◌≡◌, ℕ, Bool, true, false, cond, not, ◌==◌, [], is_some, Option, Some, None, option_map, refl, sym, ap, ◌∙◌, subst}
use Rattle.std.specs.Map.{lookup}
use Rattle.std.specs.BTreeMap.{is_at}
use Rattle.touch_laws.proofs.NumberLaws.{eq_same}
use Rattle.argo_base.specs.Match.{key_cmp, key_in}
use Rattle.argo_base.specs.declared.errno.Errno.TheVariants.{Srch}
use Rattle.argo_base.specs.declared.ring_key.RingId.{RingId}
use Rattle.argo_base.specs.declared.ring_key.RingKey.{RingKey}
use Rattle.argo_model.specs.declared.action.Outcome.TheVariants.{Done}
use Rattle.argo_model.specs.Rules.Destroy.{forget, gone_domain, reset_live, change_all}
use Rattle.argo_model.specs.Rules.Effects.{refuse_if, leaving}
use Rattle.argo_model.specs.Rules.State.{State, Domain, Live, domain_of, live_of, is_alive, change_found, change_domain, change_life}
use Rattle.plain_world.specs.Levels.{Levels, AreLevel}
use Rattle.touch_laws.specs.Touches.{Same}
use Rattle.plain_world.proofs.LevelActs.{level_same}
use Rattle.touch_laws.proofs.RingLaws.{ring_set, live_found}
use Rattle.state_laws.specs.Valid.{IsValid}
use Rattle.state_laws.proofs.StateActs.{valid_destroy, valid_reset}
use Rattle.live_domain.specs.Keyed.{has_notice}
use Rattle.domains.specs.ById.{rings_in, rings_of, ring_in, ring_at}

-- a change of a domain that has no rings, after which it has none
none_change : (s : State) (d : ℕ) (fin : Domain → Domain) → ((x : Domain) (k : RingKey) → rings_in x.life ≡ [] → ring_in (fin x).life k ≡ ring_in x.life k) → rings_of s d ≡ []
    → Same s (change_domain s d fin)
none_change s d fin keeps none = record { stands = λ y. ap is_some (at y); notices = λ y q. ap (λ r. has_notice r q) (at y) } where
  at : (y : RingId) → ring_at (change_domain s d fin) y ≡ ring_at s y
  at y = by (domain_of s d) refl where
    by : (o : Option Domain) → domain_of s d ≡ o → ring_at (change_found s d fin o) y ≡ ring_at s y
    by None here = refl
    by (Some x) here = ring_set s d (fin x) x y here ∙ own (d == y.owner) refl where
      own : (b : Bool) → (d == y.owner) ≡ b → cond b (ring_in (fin x).life (key_in y)) (ring_at s y) ≡ ring_at s y
      own true is =
          keeps x (key_in y) (sym (ap rings_in (live_found s d x here)) ∙ none)
          ∙ sym (ap (λ q. ring_in (live_of s q) (key_in y)) (sym (eq_same d y.owner is)) ∙ ap (λ l. ring_in l (key_in y)) (live_found s d x here))
      own false is = refl

keeps_gone : (x : Domain) (k : RingKey) → rings_in x.life ≡ [] → ring_in (gone_domain x).life k ≡ ring_in x.life k
keeps_gone x k none = by x.life none where
  by : (l : Option Live) → rings_in l ≡ [] → None ≡ ring_in l k
  by None h = refl
  by (Some live) h = sym (ap (lookup (is_at (key_cmp k))) h)

keeps_reset : (x : Domain) (k : RingKey) → rings_in x.life ≡ [] → ring_in (change_life reset_live x).life k ≡ ring_in x.life k
keeps_reset x k none = by x.life none where
  by : (l : Option Live) → rings_in l ≡ [] → ring_in (option_map reset_live l) k ≡ ring_in l k
  by None h = refl
  by (Some live) h = sym (ap (lookup (is_at (key_cmp k))) h)

pub level_gone : (w : Levels) (s : State) (d : ℕ) → IsValid s → is_alive s d ≡ true → AreLevel w → rings_of w.state d ≡ []
    → change_domain w.state d gone_domain ≡ change_domain (forget s d) d gone_domain
    → AreLevel (record { state = change_domain w.state d gone_domain; sends = w.sends; waits = w.waits })
level_gone w s d valid alive level none same =
    level_same w (change_domain w.state d gone_domain)
    (subst IsValid
    (ap (λ b. (change_all s (refuse_if (not b) Srch (leaving Done (change_domain (forget s d) d gone_domain)))).state) alive ∙ sym same) (valid_destroy s d valid))
    (none_change w.state d gone_domain keeps_gone none) level

pub level_reset : (w : Levels) (s : State) (d : ℕ) → IsValid s → is_alive s d ≡ true → AreLevel w → rings_of w.state d ≡ []
    → change_domain w.state d (change_life reset_live) ≡ change_domain (forget s d) d (change_life reset_live)
    → AreLevel (record { state = change_domain w.state d (change_life reset_live); sends = w.sends; waits = w.waits })
level_reset w s d valid alive level none same =
    level_same w (change_domain w.state d (change_life reset_live))
    (subst IsValid
    (ap (λ b. (change_all s (refuse_if (not b) Srch (leaving Done (change_domain (forget s d) d (change_life reset_live))))).state) alive ∙ sym same) (valid_reset s d valid))
    (none_change w.state d (change_life reset_live) keeps_reset none) level
