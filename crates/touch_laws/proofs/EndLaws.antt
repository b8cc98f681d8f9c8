-- Laws of ends: rings and notices that end one by one, and what is left then.
use Rattle.std.proofs.Common.{◌≡◌, ℕ, ◌<◌, Bool, true, false, cond, ◌==◌, not, IfSome, List, [], ◌∷◌, filter, map, Option, Some, None, option_map, refl, sym, ap, ◌∙◌, subst}
use Rattle.std.specs.Ordering.{nat_cmp}
use Rattle.std.specs.Map.{lookup, set_value, remove_entry}
use Rattle.std.specs.BTreeMap.{is_at}
use Rattle.std.proofs.lemmas.Map.Steps.{set_value_same}
use Rattle.argo_base.specs.Match.{key_cmp, key_in}
use Rattle.argo_base.specs.Notices.{Notices, withdrawn}
use Rattle.argo_base.specs.declared.ring_key.RingId.{RingId}
use Rattle.argo_base.specs.declared.ring_key.RingKey.{RingKey}
use Rattle.argo_model.specs.Rules.Destroy.{ring_without, rings_without, live_without, forget, gone_domain, reset_live}
use Rattle.argo_model.specs.Rules.Register.{own_ring, without_ring}
use Rattle.argo_model.specs.Rules.State.{State, Domain, Live, Ring, domain_of, set_domain, is_alive, change_found, change_domain, change_life}
use Rattle.touch_laws.specs.Ends.{EndSame}
use Rattle.state_laws.specs.Each.{EachTwo}
use Rattle.state_laws.specs.Valid.{IsLive, IsRing, IsValid}
use Rattle.state_laws.proofs.Domains.{fit_found, get_map, get_set_same}
use Rattle.state_laws.proofs.Lives.{chosen}
use Rattle.state_laws.proofs.Rising.{none_removed, absent}
use Rattle.live_domain.specs.Keyed.{without_notice_of}
use Rattle.domains.specs.ById.{end_key, ring_ended, forget_key, notice_ended}

abbrev Rises : Notices → Type 0
Rises ns = EachTwo (λ (a b : ℕ × ℕ). a.0 < b.0) ns

-- ---- lists of entries

module _ {K X : Type 0} where
  pub removed_none : (test : K → Bool) (es : List (K × X)) → lookup test es ≡ None → remove_entry test es ≡ es
  removed_none test [] none = refl
  removed_none test (e ∷ es) none = by (test e.0) none (removed_none test es) where
    by : (b : Bool) → cond b (Some e.1) (lookup test es) ≡ None → (lookup test es ≡ None → remove_entry test es ≡ es) → cond b es (e ∷ remove_entry test es) ≡ e ∷ es
    by true none rest = cc
    by false none rest = ap (λ r. e ∷ r) (rest none)

  set_again : (test : K → Bool) (es : List (K × X)) (a b : X) → set_value test (set_value test es a) b ≡ set_value test es b
  set_again test [] a b = refl
  set_again test (e ∷ es) a b = by (test e.0) refl (set_again test es a b) where
    by : (t : Bool) → test e.0 ≡ t → set_value test (set_value test es a) b ≡ set_value test es b
        → set_value test (cond t ((e.0, a) ∷ es) (e ∷ set_value test es a)) b ≡ cond t ((e.0, b) ∷ es) (e ∷ set_value test es b)
    by true is rest = ap (λ (t : Bool). cond t ((e.0, b) ∷ es) ((e.0, a) ∷ set_value test es b)) is
    by false is rest = ap (λ (t : Bool). cond t ((e.0, b) ∷ set_value test es a) (e ∷ set_value test (set_value test es a) b)) is ∙ ap (λ r. e ∷ r) rest

  map_set : (f : X → X) (test : K → Bool) (es : List (K × X)) (w : X) → map (λ (e : K × X). (e.0, f e.1)) (set_value test es w) ≡ set_value test (map (λ (e : K × X). (e.0, f e.1)) es) (f w)
  map_set f test [] w = refl
  map_set f test (e ∷ es) w = by (test e.0) (map_set f test es w) where
    by : (t : Bool) → map (λ (e : K × X). (e.0, f e.1)) (set_value test es w) ≡ set_value test (map (λ (e : K × X). (e.0, f e.1)) es) (f w)
        → map (λ (e : K × X). (e.0, f e.1)) (cond t ((e.0, w) ∷ es) (e ∷ set_value test es w)) ≡ cond t ((e.0, f w) ∷ map (λ (e : K × X). (e.0, f e.1)) es) ((e.0, f e.1) ∷ set_value test (map (λ (e : K × X). (e.0, f e.1)) es) (f w))
    by true rest = refl
    by false rest = ap (λ r. (e.0, f e.1) ∷ r) rest

-- ---- what is forgotten of a domain

module _ (s : State) (d : ℕ) where
  forgot : Domain → Domain
  forgot = change_life (live_without d)

  forget_set : (o : ℕ) (x : Domain) → forget (set_domain s o x) d ≡ set_domain (forget s d) o (change_life (live_without d) x)
  forget_set o x = map_set (change_life (live_without d)) (is_at (nat_cmp o)) s x

  forget_found : (o : ℕ) (x : Domain) → domain_of s o ≡ Some x → domain_of (forget s d) o ≡ Some (change_life (live_without d) x)
  forget_found o x here = get_map (change_life (live_without d)) o s ∙ ap (option_map (change_life (live_without d))) here

  -- a change of what is forgotten anyway
  pub forget_change : (o : ℕ) (f : Domain → Domain) → ((x : Domain) → domain_of s o ≡ Some x → change_life (live_without d) (f x) ≡ change_life (live_without d) x)
      → forget (change_domain s o f) d ≡ forget s d
  forget_change o f same = by (domain_of s o) refl where
    by : (y : Option Domain) → domain_of s o ≡ y → forget (change_found s o f y) d ≡ forget s d
    by None here = refl
    by (Some x) here =
        forget_set o (f x) ∙ ap (set_domain (forget s d) o) (same x here)
        ∙ set_value_same (is_at (nat_cmp o)) (forget s d) (change_life (live_without d) x) (forget_found o x here)

  -- a change of what ends anyway
  end_change : (f fin : Domain → Domain) → ((x : Domain) → fin (change_life (live_without d) (f x)) ≡ fin (change_life (live_without d) x))
      → change_domain (forget (change_domain s d f) d) d fin ≡ change_domain (forget s d) d fin
  end_change f fin same = by (domain_of s d) refl where
    by : (y : Option Domain) → domain_of s d ≡ y → change_domain (forget (change_found s d f y) d) d fin ≡ change_domain (forget s d) d fin
    by None here = refl
    by (Some x) here =
        let a = change_life (live_without d) (f x) in
        let b = change_life (live_without d) x in
        ap (λ t. change_domain t d fin) (forget_set d (f x))
        ∙ ap (change_found (set_domain (forget s d) d a) d fin) (get_set_same d a (forget s d) b (forget_found d x here))
        ∙ set_again (is_at (nat_cmp d)) (forget s d) a (fin a)
        ∙ ap (set_domain (forget s d) d) (same x)
        ∙ sym (ap (change_found (forget s d) d fin) (forget_found d x here))

  life_gone : (f : Live → Live) (x : Domain) → gone_domain (change_life (live_without d) (change_life f x)) ≡ gone_domain (change_life (live_without d) x)
  life_gone f x = refl

  life_reset : (key : RingKey) (x : Domain) → change_life reset_live (change_life (live_without d) (change_life (λ l. without_ring l key) x)) ≡ change_life reset_live (change_life (live_without d) x)
  life_reset key x = by x.life where
    by : (l : Option Live) → record x { life = option_map reset_live (option_map (live_without d) (option_map (λ l. without_ring l key) l)) } ≡ record x { life = option_map reset_live (option_map (live_without d) l) }
    by None = refl
    by (Some live) = refl

-- a ring of a domain ended, which ends or is reset
pub own_ended : (s : State) (id : RingId) (d : ℕ) → id.owner ≡ d → EndSame d (forget s d) (forget (ring_ended s id) d)
own_ended s id d own = subst (λ o. EndSame d (forget s d) (forget (change_domain s o (change_life (end_key id))) d)) (sym own) (record {
  gone = end_change s d (change_life (end_key id)) gone_domain (λ x. refl);
  reset = end_change s d (change_life (end_key id)) (change_life reset_live) (λ x. life_reset s d (key_in id) x);
})

-- ---- rings that are for the domain

abbrev without_in : ℕ → RingKey × Ring → RingKey × Ring
without_in d e = (e.0, ring_without d e.1)

removed_for : (d : ℕ) (key : RingKey) (es : List (RingKey × Ring)) → (key.partner == d) ≡ true → ((k : RingKey) → is_at (key_cmp key) k ≡ true → key ≡ k)
    → rings_without d (remove_entry (is_at (key_cmp key)) es) ≡ rings_without d es
removed_for d key [] for same = refl
removed_for d key (e ∷ es) for same = by (is_at (key_cmp key) e.0) refl (removed_for d key es for same) where
  by : (b : Bool) → is_at (key_cmp key) e.0 ≡ b → rings_without d (remove_entry (is_at (key_cmp key)) es) ≡ rings_without d es
      → rings_without d (cond b es (e ∷ remove_entry (is_at (key_cmp key)) es)) ≡ rings_without d (e ∷ es)
  by true is rest =
      let out : (e.0.partner == d) ≡ true = ap (λ (k : RingKey). k.partner == d) (sym (same e.0 is)) ∙ for in
      ap (λ b. map (without_in d) (cond (not b) (e ∷ filter (λ e. not (e.0.partner == d)) es) (filter (λ e. not (e.0.partner == d)) es))) (sym out)
  by false is rest = at (not (e.0.partner == d)) where
    at : (b : Bool) → map (without_in d) (cond b (e ∷ filter (λ e. not (e.0.partner == d)) (remove_entry (is_at (key_cmp key)) es)) (filter (λ e. not (e.0.partner == d)) (remove_entry (is_at (key_cmp key)) es)))
        ≡ map (without_in d) (cond b (e ∷ filter (λ e. not (e.0.partner == d)) es) (filter (λ e. not (e.0.partner == d)) es))
    at true = ap (λ r. (e.0, ring_without d e.1) ∷ r) rest
    at false = rest

pub sender_ended : (s : State) (id : RingId) (d : ℕ) → (id.partner == d) ≡ true → ((k : RingKey) → is_at (key_cmp (key_in id)) k ≡ true → key_in id ≡ k)
    → forget (ring_ended s id) d ≡ forget s d
sender_ended s id d for same = forget_change s d id.owner (change_life (end_key id)) (λ x here. by x x.life) where
  by : (x : Domain) (l : Option Live) → record x { life = option_map (live_without d) (option_map (end_key id) l) } ≡ record x { life = option_map (live_without d) l }
  by x None = refl
  by x (Some live) = ap (λ rs. record x { life = Some (record live { rings = rs }) }) (removed_for d (key_in id) live.rings for same)

-- ---- notices of the domain

withdrawn_again : (ns : Notices) (d : ℕ) → Rises ns → withdrawn (withdrawn ns d) d ≡ withdrawn ns d
withdrawn_again ns d rises = removed_none (is_at (nat_cmp d)) (withdrawn ns d) (absent d (withdrawn ns d) (none_removed d ns rises))

set_without : (d : ℕ) (key : RingKey) (r : Ring) (es : List (RingKey × Ring)) → lookup (is_at (key_cmp key)) es ≡ Some r → Rises r.notices
    → rings_without d (set_value (is_at (key_cmp key)) es (ring_without d r)) ≡ rings_without d es
set_without d key r [] found rises = refl
set_without d key r (e ∷ es) found rises = by (is_at (key_cmp key) e.0) found (λ f. set_without d key r es f rises) where
  at : (b : Bool) (h t u : List (RingKey × Ring)) → map (without_in d) h ≡ map (without_in d) t → map (without_in d) u ≡ map (without_in d) (filter (λ e. not (e.0.partner == d)) es)
      → map (without_in d) (cond b h u) ≡ map (without_in d) (cond b t (filter (λ e. not (e.0.partner == d)) es))
  at true h t u same rest = same
  at false h t u same rest = rest

  by : (b : Bool) → cond b (Some e.1) (lookup (is_at (key_cmp key)) es) ≡ Some r
      → (lookup (is_at (key_cmp key)) es ≡ Some r → rings_without d (set_value (is_at (key_cmp key)) es (ring_without d r)) ≡ rings_without d es)
      → rings_without d (cond b ((e.0, ring_without d r) ∷ es) (e ∷ set_value (is_at (key_cmp key)) es (ring_without d r))) ≡ rings_without d (e ∷ es)
  by true found rest =
      let same : e.1 ≡ r = cc in
      let once : ring_without d (ring_without d r) ≡ ring_without d e.1 = ap (λ ns. record r { notices = ns }) (withdrawn_again r.notices d rises) ∙ ap (ring_without d) (sym same) in
      at (not (e.0.partner == d)) ((e.0, ring_without d r) ∷ filter (λ e. not (e.0.partner == d)) es) (e ∷ filter (λ e. not (e.0.partner == d)) es) (filter (λ e. not (e.0.partner == d)) es)
      (ap (λ q. (e.0, q) ∷ map (without_in d) (filter (λ e. not (e.0.partner == d)) es)) once) refl
  by false found rest =
      at (not (e.0.partner == d)) (e ∷ filter (λ e. not (e.0.partner == d)) (set_value (is_at (key_cmp key)) es (ring_without d r))) (e ∷ filter (λ e. not (e.0.partner == d)) es)
      (filter (λ e. not (e.0.partner == d)) (set_value (is_at (key_cmp key)) es (ring_without d r)))
      (ap (λ q. (e.0, ring_without d e.1) ∷ q) (rest found)) (rest found)

-- what holds of the ring of a key in a valid state
ring_fit : (s : State) (o : ℕ) (x : Domain) (live : Live) (key : RingKey) (r : Ring) → IsValid s → domain_of s o ≡ Some x → x.life ≡ Some live → own_ring live key ≡ Some r → IsRing (is_alive s) live.bytes (key, r)
ring_fit s o x live key r v here lives found =
    (chosen (is_alive s) live key r (subst (λ (l : Option Live). IfSome l (IsLive (is_alive s))) lives (fit_found (is_alive s) s o x here v.lives)) found).ring

pub notice_forgot : (s : State) (id : RingId) (d : ℕ) → IsValid s → forget (notice_ended s id d) d ≡ forget s d
notice_forgot s id d v = forget_change s d id.owner (change_life (forget_key id d)) (λ x here. life x here x.life refl) where
  life : (x : Domain) → domain_of s id.owner ≡ Some x → (l : Option Live) → x.life ≡ l
      → record x { life = option_map (live_without d) (option_map (forget_key id d) l) } ≡ record x { life = option_map (live_without d) l }
  life x here None is = refl
  life x here (Some live) is = ring (own_ring live (key_in id)) refl where
    ring : (o : Option Ring) → own_ring live (key_in id) ≡ o
        → record x { life = Some (live_without d (without_notice_of live (key_in id) d o)) } ≡ record x { life = Some (live_without d live) }
    ring None none = refl
    ring (Some r) found =
        ap (λ rs. record x { life = Some (record live { rings = rs }) })
        (set_without d (key_in id) r live.rings found (ring_fit s id.owner x live (key_in id) r v here is found).one_notice_each)
