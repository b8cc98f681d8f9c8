-- Laws of domains that change, of those that are found, and of who is alive then.
use Rattle.std.proofs.Common.{◌≡◌, ◌≢◌, ℕ, ◌<◌, Bool, true, false, cond, IsTrue, List, [], ◌∷◌, map, is_some, Option, Some, None, option_map, option_and_then, ⊎_elim, refl, sym, ap, ◌∙◌, subst}
use Rattle.std.specs.Prelude.{IfSome}
use Rattle.std.specs.Ordering.{nat_cmp}
use Rattle.std.specs.Map.{lookup, set_value}
use Rattle.std.specs.BTreeMap.{is_at}
use Rattle.std.proofs.lemmas.Bool.{cases_eq}
use Rattle.argo_model.specs.Rules.Effects.{Change, change_in, set_left, with_life}
use Rattle.argo_model.specs.Rules.State.{State, Domain, Live, domain_of, set_domain, is_alive, change_found, change_domain, flagged, signalled, signal, signal_all}
use Rattle.state_laws.specs.Each.{Each, EachTwo}
use Rattle.state_laws.specs.Valid.{IsLive, IsRing, IsNotice, IsValid}
use Rattle.state_laws.proofs.Lists.{each_weak, each_set, each_found, two_keys}
use Rattle.state_laws.proofs.Rising.{is_at_not, is_at_same}

-- ---- what is found

module _ {X : Type 0} (d : ℕ) (w : X) where
  pub get_set_other : (q : ℕ) (es : List (ℕ × X)) → d ≢ q → lookup (is_at (nat_cmp q)) (set_value (is_at (nat_cmp d)) es w) ≡ lookup (is_at (nat_cmp q)) es
  get_set_other q [] apart = refl
  get_set_other q (e ∷ es) apart = by (is_at (nat_cmp d) e.0) refl (get_set_other q es apart) where
    by : (b : Bool) → is_at (nat_cmp d) e.0 ≡ b → lookup (is_at (nat_cmp q)) (set_value (is_at (nat_cmp d)) es w) ≡ lookup (is_at (nat_cmp q)) es
        → lookup (is_at (nat_cmp q)) (cond b ((e.0, w) ∷ es) (e ∷ set_value (is_at (nat_cmp d)) es w)) ≡ cond (is_at (nat_cmp q) e.0) (Some e.1) (lookup (is_at (nat_cmp q)) es)
    by true is rest =
        let same = is_at_same d e.0 is in
        let n = is_at_not q e.0 (λ h. apart (same ∙ sym h)) in
        ap (λ (b : Bool). cond b (Some w) (lookup (is_at (nat_cmp q)) es)) n ∙ ap (λ (b : Bool). cond b (Some e.1) (lookup (is_at (nat_cmp q)) es)) (sym n)
    by false is rest = ap (cond (is_at (nat_cmp q) e.0) (Some e.1)) rest

  pub get_set_same : (es : List (ℕ × X)) (x : X) → lookup (is_at (nat_cmp d)) es ≡ Some x → lookup (is_at (nat_cmp d)) (set_value (is_at (nat_cmp d)) es w) ≡ Some w
  get_set_same [] x here = cc
  get_set_same (e ∷ es) x here = by (is_at (nat_cmp d) e.0) refl here (get_set_same es x) where
    by : (b : Bool) → is_at (nat_cmp d) e.0 ≡ b → cond b (Some e.1) (lookup (is_at (nat_cmp d)) es) ≡ Some x
        → (lookup (is_at (nat_cmp d)) es ≡ Some x → lookup (is_at (nat_cmp d)) (set_value (is_at (nat_cmp d)) es w) ≡ Some w)
        → lookup (is_at (nat_cmp d)) (cond b ((e.0, w) ∷ es) (e ∷ set_value (is_at (nat_cmp d)) es w)) ≡ Some w
    by true is here rest = ap (λ (b : Bool). cond b (Some w) (lookup (is_at (nat_cmp d)) es)) is
    by false is here rest = ap (λ (b : Bool). cond b (Some e.1) (lookup (is_at (nat_cmp d)) (set_value (is_at (nat_cmp d)) es w))) is ∙ rest here

pub get_map : {X : Type 0} (f : X → X) (q : ℕ) (es : List (ℕ × X)) → lookup (is_at (nat_cmp q)) (map (λ (e : ℕ × X). (e.0, f e.1)) es) ≡ option_map f (lookup (is_at (nat_cmp q)) es)
get_map f q [] = refl
get_map {X} f q (e ∷ es) = by (is_at (nat_cmp q) e.0) (get_map f q es) where
  by : (b : Bool) → lookup (is_at (nat_cmp q)) (map (λ (e : ℕ × X). (e.0, f e.1)) es) ≡ option_map f (lookup (is_at (nat_cmp q)) es)
      → cond b (Some (f e.1)) (lookup (is_at (nat_cmp q)) (map (λ (e : ℕ × X). (e.0, f e.1)) es)) ≡ option_map f (cond b (Some e.1) (lookup (is_at (nat_cmp q)) es))
  by true rest = refl
  by false rest = rest

-- ---- who is alive

-- a domain that is found is alive exactly where it has a life
abbrev pub found_alive : Option Domain → Bool
found_alive o = is_some (option_and_then (λ (x : Domain). x.life) o)

pub alive_other : (s : State) (d q : ℕ) (x : Domain) → d ≢ q → is_alive (set_domain s d x) q ≡ is_alive s q
alive_other s d q x apart = ap found_alive (get_set_other d x q s apart)

pub alive_here : (s : State) (d : ℕ) (x y : Domain) → domain_of s d ≡ Some y → is_alive (set_domain s d x) d ≡ is_some x.life
alive_here s d x y here = ap found_alive (get_set_same d x s y here)

-- what a domain has is as it should be, where it has anything
abbrev pub IsFit : (ℕ → Bool) → Domain → Type 0
IsFit alive x = IfSome x.life (IsLive alive)

abbrev pub AreFit : (ℕ → Bool) → State → Type 0
AreFit alive s = Each (λ (e : ℕ × Domain). IsFit alive e.1) s

abbrev pub IsRisen : State → Type 0
IsRisen s = EachTwo (λ (a b : ℕ × Domain). a.0 < b.0) s

-- a state after an act: domains by rising id, each as it should be, and every domain that was alive is alive
pub record Kept (alive : ℕ → Bool) (s t : State) : Type 0 where
  pub risen : IsRisen t
  pub fit : AreFit alive t
  pub lives : (q : ℕ) → IsTrue (is_alive s q) → IsTrue (is_alive t q)

pub kept_self : (alive : ℕ → Bool) (s : State) → IsRisen s → AreFit alive s → Kept alive s s
kept_self alive s risen fit = record { risen = risen; fit = fit; lives = λ q h. h }

pub kept_again : (alive : ℕ → Bool) (s t u : State) → Kept alive s t → Kept alive t u → Kept alive s u
kept_again alive s t u a b = record { risen = b.risen; fit = b.fit; lives = λ q h. b.lives q (a.lives q h) }

pub fit_found : (alive : ℕ → Bool) (s : State) (d : ℕ) (x : Domain) → domain_of s d ≡ Some x → AreFit alive s → IsFit alive x
fit_found alive s d x here fit = (each_found (λ (e : ℕ × Domain). IsFit alive e.1) (is_at (nat_cmp d)) s x here fit).2

-- a domain is changed
pub kept_change : (alive : ℕ → Bool) (s : State) (d : ℕ) (change : Domain → Domain) → ((x : Domain) → IsFit alive x → IsFit alive (change x))
    → ((x : Domain) → IsTrue (is_some x.life) → IsTrue (is_some (change x).life)) → IsRisen s → AreFit alive s → Kept alive s (change_domain s d change)
kept_change alive s d change keeps lives risen fit = by (domain_of s d) refl where
  by : (o : Option Domain) → domain_of s d ≡ o → Kept alive s (change_found s d change o)
  by None here = kept_self alive s risen fit
  by (Some x) here =
      record {
        risen = two_keys (λ a b. a < b) (is_at (nat_cmp d)) s (change x) risen;
        fit = each_set (λ (e : ℕ × Domain). IsFit alive e.1) (is_at (nat_cmp d)) s (change x) fit (λ k. keeps x (fit_found alive s d x here fit));
        lives = λ q h. ⊎_elim (λ same. at_d q same h) (λ apart. subst (λ (b : Bool). IsTrue b) (sym (alive_other s d q (change x) apart)) h) (cases_eq d q);
      } where
        at_d : (q : ℕ) → d ≡ q → IsTrue (is_alive s q) → IsTrue (is_alive (set_domain s d (change x)) q)
        at_d q same h =
            let old : IsTrue (is_some x.life) = subst (λ (o : Option Domain). IsTrue (found_alive o)) here (subst (λ k. IsTrue (is_alive s k)) (sym same) h) in
            subst (λ k. IsTrue (is_alive (set_domain s d (change x)) k)) same
            (subst (λ (b : Bool). IsTrue b) (sym (alive_here s d (change x) x here)) (lives x old))

-- its flag is set
pub fit_signalled : (alive : ℕ → Bool) (x : Domain) → IsFit alive x → IsFit alive (signalled x)
fit_signalled alive x h = by x.life h where
  by : (l : Option Live) → IfSome l (IsLive alive) → IfSome (option_map flagged l) (IsLive alive)
  by None h = tt
  by (Some live) h = record { few_rings = h.few_rings; serials_are_made = h.serials_are_made; rings = h.rings; apart = h.apart }

map_lives : (f : Live → Live) (l : Option Live) → IsTrue (is_some l) → IsTrue (is_some (option_map f l))
map_lives f None h = h
map_lives f (Some live) h = refl

pub kept_signals : (alive : ℕ → Bool) (ds : List ℕ) (s : State) → IsRisen s → AreFit alive s → Kept alive s (signal_all s ds)
kept_signals alive [] s risen fit = kept_self alive s risen fit
kept_signals alive (d ∷ ds) s risen fit =
    let one = kept_change alive s d signalled (fit_signalled alive) (λ x h. map_lives flagged x.life h) risen fit in
    kept_again alive s (signal s d) (signal_all (signal s d) ds) one (kept_signals alive ds (signal s d) one.risen one.fit)

-- what it has is replaced, and others are signalled
pub kept_in : (alive : ℕ → Bool) (s : State) (d : ℕ) (c : Change Live) → IfSome c.left (IsLive alive) → IsRisen s → AreFit alive s → Kept alive s (change_in s d c).state
kept_in alive s d c h risen fit =
    let one = left c.left h in
    kept_again alive s (set_left s d c.left) (change_in s d c).state one (kept_signals alive c.signals (set_left s d c.left) one.risen one.fit) where
      left : (l : Option Live) → IfSome l (IsLive alive) → Kept alive s (set_left s d l)
      left None h = kept_self alive s risen fit
      left (Some live) h = kept_change alive s d (with_life live) (λ x old. h) (λ x old. refl) risen fit

-- ---- more domains alive

pub live_more : (alive more : ℕ → Bool) → ((q : ℕ) → IsTrue (alive q) → IsTrue (more q)) → (live : Live) → IsLive alive live → IsLive more live
live_more alive more up live h =
    record {
      few_rings = h.few_rings;
      serials_are_made = h.serials_are_made;
      apart = h.apart;
      rings = each_weak (IsRing alive live.bytes) (IsRing more live.bytes)
          (λ e g. record {
            legal = g.legal;
            paged = g.paged;
            pages_are_there = g.pages_are_there;
            pages_differ = g.pages_differ;
            tx_is_place = g.tx_is_place;
            untaken = g.untaken;
            one_notice_each = g.one_notice_each;
            few_notices = g.few_notices;
            notices = each_weak (IsNotice alive e.0 e.1.len) (IsNotice more e.0 e.1.len)
                (λ n k. record { size_can_fit = k.size_can_fit; is_alive = up n.0 k.is_alive; may_wait = k.may_wait }) e.1.notices g.notices;
          }) live.rings h.rings;
    }

pub fit_more : (alive more : ℕ → Bool) → ((q : ℕ) → IsTrue (alive q) → IsTrue (more q)) → (s : State) → AreFit alive s → AreFit more s
fit_more alive more up s fit = each_weak (λ (e : ℕ × Domain). IsFit alive e.1) (λ (e : ℕ × Domain). IsFit more e.1) (λ e h. by e.1.life h) s fit where
  by : (l : Option Live) → IfSome l (IsLive alive) → IfSome l (IsLive more)
  by None h = tt
  by (Some live) h = live_more alive more up live h

-- so a state that was kept is valid
pub valid_kept : (s t : State) → Kept (is_alive s) s t → IsValid t
valid_kept s t k = record { one_domain_each = k.risen; lives = fit_more (is_alive s) (is_alive t) k.lives t k.fit }
