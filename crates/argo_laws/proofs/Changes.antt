-- Laws of what a change of one domain leaves of all of them: the rings by their names, and the flags.
use Rattle.std.proofs.Common.{◌≡◌, ◌≢◌, ℕ, Bool, true, false, if◌then◌else◌, ◌==◌, ◌⊎◌, List, [], ◌∷◌, is_some, unwrap_or, Option, Some, None, option_map, option_and_then, ⊎_elim, inl, inr, refl, sym, ap, ◌∙◌, subst}
use Rattle.std.proofs.lemmas.Bool.{cases_eq}
use Rattle.argo_base.specs.declared.ring_key.RingKey.{RingKey}
use Rattle.argo_model.specs.Laws.NoticeEnds.{has_flag}
use Rattle.argo_model.specs.Laws.RingNames.{RingName, owner_in}
use Rattle.argo_model.specs.Rules.Effects.{with_life}
use Rattle.argo_model.specs.Rules.State.{State, Domain, Live, Ring, domain_of, life_in, is_alive, change_found, change_domain, flagged, signalled, signal, signal_all}
use Rattle.state_laws.proofs.Domains.{get_set_other, get_set_same, found_alive}
use Rattle.state_laws.proofs.Lives.{In}
use Rattle.argo_laws.proofs.Names.{entry, entry_of, eqb_not, eqb_self}

-- what is found where one domain changed
pub domain_else : (s : State) (d q : ℕ) (change : Domain → Domain) → d ≢ q → domain_of (change_domain s d change) q ≡ domain_of s q
domain_else s d q change apart = by (domain_of s d) where
  by : (o : Option Domain) → domain_of (change_found s d change o) q ≡ domain_of s q
  by None = refl
  by (Some x) = get_set_other d (change x) q s apart

pub domain_here : (s : State) (d : ℕ) (change : Domain → Domain) → domain_of (change_domain s d change) d ≡ option_map change (domain_of s d)
domain_here s d change = by (domain_of s d) refl where
  by : (o : Option Domain) → domain_of s d ≡ o → domain_of (change_found s d change o) d ≡ option_map change o
  by None here = here
  by (Some x) here = get_set_same d (change x) s x here

-- ---- signals

-- rings and memory of a domain are the same, in the same generation
abbrev pub rings_of : ℕ → Option Domain → Option (List (RingKey × Ring))
rings_of g o = option_map (λ (live : Live). live.rings) (option_and_then (life_in g) o)

signalled_rings : (g : ℕ) (o : Option Domain) → rings_of g (option_map signalled o) ≡ rings_of g o
signalled_rings g None = refl
signalled_rings g (Some x) = by (x.generation == g) x.life where
  by : (b : Bool) (l : Option Live) → option_map (λ (live : Live). live.rings) (if b then option_map flagged l else None) ≡ option_map (λ (live : Live). live.rings) (if b then l else None)
  by true None = refl
  by true (Some live) = refl
  by false l = refl

pub signal_rings : (s : State) (ds : List ℕ) (q g : ℕ) → rings_of g (domain_of (signal_all s ds) q) ≡ rings_of g (domain_of s q)
signal_rings s [] q g = refl
signal_rings s (d ∷ ds) q g =
    signal_rings (signal s d) ds q g
    ∙ ⊎_elim (λ same. subst (λ k. rings_of g (domain_of (signal s d) k) ≡ rings_of g (domain_of s k)) same (ap (rings_of g) (domain_here s d signalled) ∙ signalled_rings g (domain_of s d)))
    (λ apart. ap (rings_of g) (domain_else s d q signalled apart)) (cases_eq d q)

entry_by : (o : Option Live) (n : ℕ) → option_and_then (λ (live : Live). entry live.rings n) o ≡ option_and_then (λ (rs : List (RingKey × Ring)). entry rs n) (option_map (λ (live : Live). live.rings) o)
entry_by None n = refl
entry_by (Some live) n = refl

-- an entry rests on the rings alone
pub entry_same : (s t : State) (name : RingName) → rings_of name.generation (domain_of t name.owner) ≡ rings_of name.generation (domain_of s name.owner) → entry_of t name ≡ entry_of s name
entry_same s t name h =
    entry_by (owner_in t name) name.serial ∙ ap (option_and_then (λ (rs : List (RingKey × Ring)). entry rs name.serial)) h ∙ sym (entry_by (owner_in s name) name.serial)

pub signal_entry : (s : State) (ds : List ℕ) (name : RingName) → entry_of (signal_all s ds) name ≡ entry_of s name
signal_entry s ds name = entry_same s (signal_all s ds) name (signal_rings s ds name.owner name.generation)

-- ---- a change of one domain

-- the domain of an act, with what it has alive
pub record Found (s : State) (to : ℕ) (y : Domain) (old : Live) : Type 0 where
  pub here : domain_of s to ≡ Some y
  pub life : y.life ≡ Some old

module _ (s : State) (to : ℕ) (y : Domain) (old : Live) (f : Found s to y old) (new : Live) (ds : List ℕ) where
  abbrev pub after_state : State
  after_state = signal_all (change_domain s to (with_life new)) ds

  pub entry_else : (name : RingName) → to ≢ name.owner → entry_of after_state name ≡ entry_of s name
  entry_else name apart =
      signal_entry (change_domain s to (with_life new)) ds name
      ∙ entry_same s (change_domain s to (with_life new)) name (ap (rings_of name.generation) (domain_else s to name.owner (with_life new) apart))

  in_generation : (g : ℕ) (l : Live) → y.generation ≡ g → (if y.generation == g then Some l else None) ≡ Some l
  in_generation g l same = ap (λ (b : Bool). if b then Some l else None) (subst (λ k. (y.generation == k) ≡ true) same (eqb_self y.generation))

  -- what the owner's rings were, and are
  pub entry_before : (name : RingName) → to ≡ name.owner → y.generation ≡ name.generation → entry_of s name ≡ entry old.rings name.serial
  entry_before name owner gen =
      ap (λ (o : Option Domain). option_and_then (λ (live : Live). entry live.rings name.serial) (option_and_then (life_in name.generation) o)) (subst (λ k. domain_of s k ≡ Some y) owner f.here)
      ∙ ap (λ (l : Option Live). option_and_then (λ (live : Live). entry live.rings name.serial) (if y.generation == name.generation then l else None)) f.life
      ∙ ap (option_and_then (λ (live : Live). entry live.rings name.serial)) (in_generation name.generation old gen)

  pub entry_after : (name : RingName) → to ≡ name.owner → y.generation ≡ name.generation → entry_of after_state name ≡ entry new.rings name.serial
  entry_after name owner gen =
      signal_entry (change_domain s to (with_life new)) ds name
      ∙ ap (λ (o : Option Domain). option_and_then (λ (live : Live). entry live.rings name.serial) (option_and_then (life_in name.generation) o))
      (subst (λ k. domain_of (change_domain s to (with_life new)) k ≡ Some (with_life new y)) owner (domain_here s to (with_life new) ∙ ap (option_map (with_life new)) f.here))
      ∙ ap (option_and_then (λ (live : Live). entry live.rings name.serial)) (in_generation name.generation new gen)

  pub entry_past : (name : RingName) → to ≡ name.owner → y.generation ≢ name.generation → (entry_of s name ≡ None) × (entry_of after_state name ≡ None)
  entry_past name owner gen = (
    ap (λ (o : Option Domain). option_and_then (λ (live : Live). entry live.rings name.serial) (option_and_then (life_in name.generation) o)) (subst (λ k. domain_of s k ≡ Some y) owner f.here)
        ∙ none y.life,
    signal_entry (change_domain s to (with_life new)) ds name
        ∙ ap (λ (o : Option Domain). option_and_then (λ (live : Live). entry live.rings name.serial) (option_and_then (life_in name.generation) o))
        (subst (λ k. domain_of (change_domain s to (with_life new)) k ≡ Some (with_life new y)) owner (domain_here s to (with_life new) ∙ ap (option_map (with_life new)) f.here))
        ∙ none (Some new),
  ) where
    none : (l : Option Live) → option_and_then (λ (live : Live). entry live.rings name.serial) (if y.generation == name.generation then l else None) ≡ None
    none l = ap (λ (b : Bool). option_and_then (λ (live : Live). entry live.rings name.serial) (if b then l else None)) (eqb_not y.generation name.generation gen)

-- ---- flags

abbrev pub flag_of : Option Domain → Bool
flag_of o = unwrap_or (option_map (λ (live : Live). live.flag) (option_and_then (λ (x : Domain). x.life) o)) false

signalled_flag : (o : Option Domain) → flag_of (option_map signalled o) ≡ found_alive o
signalled_flag None = refl
signalled_flag (Some x) = by x.life where
  by : (l : Option Live) → unwrap_or (option_map (λ (live : Live). live.flag) (option_map flagged l)) false ≡ is_some l
  by None = refl
  by (Some live) = refl

flag_alive : (o : Option Domain) → flag_of o ≡ true → found_alive o ≡ true
flag_alive None h = cc
flag_alive (Some x) h = by x.life h where
  by : (l : Option Live) → unwrap_or (option_map (λ (live : Live). live.flag) l) false ≡ true → is_some l ≡ true
  by None h = cc
  by (Some live) h = refl

signalled_alive : (o : Option Domain) → found_alive (option_map signalled o) ≡ found_alive o
signalled_alive None = refl
signalled_alive (Some x) = by x.life where
  by : (l : Option Live) → is_some (option_map flagged l) ≡ is_some l
  by None = refl
  by (Some live) = refl

pub signal_else : (s : State) (d q : ℕ) → d ≢ q → has_flag (signal s d) q ≡ has_flag s q
signal_else s d q apart = ap flag_of (domain_else s d q signalled apart)

pub signal_here : (s : State) (d : ℕ) → has_flag (signal s d) d ≡ is_alive s d
signal_here s d = ap flag_of (domain_here s d signalled) ∙ signalled_flag (domain_of s d)

signal_alive : (s : State) (d q : ℕ) → is_alive (signal s d) q ≡ is_alive s q
signal_alive s d q =
    ⊎_elim (λ same. subst (λ k. is_alive (signal s d) k ≡ is_alive s k) same (ap found_alive (domain_here s d signalled) ∙ signalled_alive (domain_of s d)))
    (λ apart. ap found_alive (domain_else s d q signalled apart)) (cases_eq d q)

-- a flag that is set then was set, or its domain is signalled
pub signal_set : (ds : List ℕ) (s : State) (q : ℕ) → has_flag (signal_all s ds) q ≡ true → (has_flag s q ≡ true) ⊎ In q ds
signal_set [] s q h = inl h
signal_set (d ∷ ds) s q h =
    ⊎_elim (λ was. ⊎_elim (λ same. inr (inl same)) (λ apart. inl (sym (signal_else s d q apart) ∙ was)) (cases_eq d q))
    (λ later. inr (inr later)) (signal_set ds (signal s d) q h)

-- one that was set stays
pub signal_keeps : (ds : List ℕ) (s : State) (q : ℕ) → has_flag s q ≡ true → has_flag (signal_all s ds) q ≡ true
signal_keeps [] s q h = h
signal_keeps (d ∷ ds) s q h =
    signal_keeps ds (signal s d) q
    (⊎_elim (λ same. subst (λ k. has_flag (signal s d) k ≡ true) same (signal_here s d ∙ flag_alive (domain_of s d) (subst (λ k. has_flag s k ≡ true) (sym same) h)))
    (λ apart. signal_else s d q apart ∙ h) (cases_eq d q))

-- a living domain that is signalled has its flag set
pub signal_reaches : (ds : List ℕ) (s : State) (q : ℕ) → In q ds → is_alive s q ≡ true → has_flag (signal_all s ds) q ≡ true
signal_reaches [] s q i lives = absurd i
signal_reaches (d ∷ ds) s q i lives =
    ⊎_elim (λ same. signal_keeps ds (signal s d) q (subst (λ k. has_flag (signal s d) k ≡ true) same (signal_here s d ∙ subst (λ k. is_alive s k ≡ true) (sym same) lives)))
    (λ later. signal_reaches ds (signal s d) q later (signal_alive s d q ∙ lives)) i

module _ (s : State) (to : ℕ) (y : Domain) (old : Live) (f : Found s to y old) (new : Live) where
  -- what the domain's flag is where it changed
  pub flag_else : (q : ℕ) → to ≢ q → has_flag (change_domain s to (with_life new)) q ≡ has_flag s q
  flag_else q apart = ap flag_of (domain_else s to q (with_life new) apart)

  pub flag_here : has_flag (change_domain s to (with_life new)) to ≡ new.flag
  flag_here = ap flag_of (domain_here s to (with_life new) ∙ ap (option_map (with_life new)) f.here)

  pub flag_was : has_flag s to ≡ old.flag
  flag_was = ap flag_of f.here ∙ ap (λ (l : Option Live). unwrap_or (option_map (λ (live : Live). live.flag) l) false) f.life

  pub flag_same : new.flag ≡ old.flag → (q : ℕ) → has_flag (change_domain s to (with_life new)) q ≡ has_flag s q
  flag_same same q =
      ⊎_elim (λ is. subst (λ k. has_flag (change_domain s to (with_life new)) k ≡ has_flag s k) is (flag_here ∙ same ∙ sym flag_was)) (λ apart. flag_else q apart) (cases_eq to q)

  pub alive_same : (q : ℕ) → is_alive (change_domain s to (with_life new)) q ≡ is_alive s q
  alive_same q =
      ⊎_elim (λ is. subst (λ k. is_alive (change_domain s to (with_life new)) k ≡ is_alive s k) is
      (ap found_alive (domain_here s to (with_life new) ∙ ap (option_map (with_life new)) f.here) ∙ sym (ap found_alive f.here ∙ ap (λ (l : Option Live). is_some l) f.life)))
      (λ apart. ap found_alive (domain_else s to q (with_life new) apart)) (cases_eq to q)
