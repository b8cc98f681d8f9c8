-- Laws of rings by their names: the entries that are found by their serials, and where they stand.
use Rattle.std.proofs.Common.{◌≡◌, ◌≢◌, ℕ, Bool, true, false, cond, if◌then◌else◌, ◌==◌, List, [], ◌∷◌, ◌++◌, map, filter, find, Option, Some, None, option_map, option_and_then, refl, sym, ap, ◌∙◌, subst, arith}
use Rattle.std.proofs.lemmas.Bool.Decides.{nat_tests}
use Rattle.argo_base.specs.declared.ring_key.RingKey.{RingKey}
use Rattle.argo_base.specs.Notices.{size_of}
use Rattle.argo_model.specs.Laws.RingNames.{RingName, owner_in, standing, standing_in, standing_of_owner, notice_on}
use Rattle.argo_model.specs.Rules.Matches.{RingAt}
use Rattle.argo_model.specs.Rules.State.{State, Domain, Live, Ring, domain_of, life_in}
use Rattle.state_laws.specs.Each.{Each, EachTwo}
use Rattle.state_laws.specs.Valid.{AreApart}
use Rattle.state_laws.proofs.Lists.{each_weak}

eqb_is : (a b : ℕ) → (a == b) ≡ true → a ≡ b
eqb_is a b h = grind (arith, nat_tests)

pub eqb_not : (a b : ℕ) → a ≢ b → (a == b) ≡ false
eqb_not a b h = grind (arith, nat_tests)

pub eqb_self : (a : ℕ) → (a == a) ≡ true
eqb_self a = grind (arith, nat_tests)

-- the ring of a serial among those of a domain
abbrev pub entry : List (RingKey × Ring) → ℕ → Option (RingKey × Ring)
entry rings n = find (λ (e : RingKey × Ring). e.1.serial == n) rings

abbrev pub entry_of : State → RingName → Option (RingKey × Ring)
entry_of s name = option_and_then (λ (live : Live). entry live.rings name.serial) (owner_in s name)

-- it has that serial
pub entry_serial : (rings : List (RingKey × Ring)) (n : ℕ) (e : RingKey × Ring) → entry rings n ≡ Some e → e.1.serial ≡ n
entry_serial [] n e h = cc
entry_serial (f ∷ fs) n e h = by (f.1.serial == n) refl h (entry_serial fs n e) where
  by : (b : Bool) → (f.1.serial == n) ≡ b → cond b (Some f) (entry fs n) ≡ Some e → (entry fs n ≡ Some e → e.1.serial ≡ n) → e.1.serial ≡ n
  by true is h rest = let same : f ≡ e = cc in subst (λ (g : RingKey × Ring). g.1.serial ≡ n) same (eqb_is f.1.serial n is)
  by false is h rest = rest h

-- among rings of other serials it is not found
pub entry_none : (rings : List (RingKey × Ring)) (n : ℕ) → Each (λ (e : RingKey × Ring). e.1.serial ≢ n) rings → entry rings n ≡ None
entry_none [] n none = refl
entry_none (e ∷ es) n none = ap (λ (b : Bool). cond b (Some e) (entry es n)) (eqb_not e.1.serial n none.0) ∙ entry_none es n none.1

-- a ring among others, with another serial or with this one
pub entry_other : (x : RingKey × Ring) (before after : List (RingKey × Ring)) (n : ℕ) → x.1.serial ≢ n → entry (before ++ x ∷ after) n ≡ entry (before ++ after) n
entry_other x [] after n apart = ap (λ (b : Bool). cond b (Some x) (entry after n)) (eqb_not x.1.serial n apart)
entry_other x (y ∷ before) after n apart = ap (cond (y.1.serial == n) (Some y)) (entry_other x before after n apart)

pub entry_mid : (x : RingKey × Ring) (before after : List (RingKey × Ring)) → Each (λ (e : RingKey × Ring). e.1.serial ≢ x.1.serial) (before ++ after) → entry (before ++ x ∷ after) x.1.serial ≡ Some x
entry_mid x [] after none = ap (λ (b : Bool). cond b (Some x) (entry after x.1.serial)) (eqb_self x.1.serial)
entry_mid x (y ∷ before) after none =
    ap (λ (b : Bool). cond b (Some y) (entry (before ++ x ∷ after) x.1.serial)) (eqb_not y.1.serial x.1.serial none.0) ∙ entry_mid x before after none.1

-- rings that change and keep their serials
pub entry_map : (f : Ring → Ring) → ((r : Ring) → (f r).serial ≡ r.serial) → (rings : List (RingKey × Ring)) (n : ℕ)
    → entry (map (λ (e : RingKey × Ring). (e.0, f e.1)) rings) n ≡ option_map (λ (e : RingKey × Ring). (e.0, f e.1)) (entry rings n)
entry_map f keeps [] n = refl
entry_map f keeps (e ∷ es) n =
    ap (λ (k : ℕ). cond (k == n) (Some (e.0, f e.1)) (entry (map (λ (e : RingKey × Ring). (e.0, f e.1)) es) n)) (keeps e.1)
    ∙ by (e.1.serial == n) (entry_map f keeps es n) where
      by : (b : Bool) → entry (map (λ (e : RingKey × Ring). (e.0, f e.1)) es) n ≡ option_map (λ (e : RingKey × Ring). (e.0, f e.1)) (entry es n)
          → cond b (Some (e.0, f e.1)) (entry (map (λ (e : RingKey × Ring). (e.0, f e.1)) es) n) ≡ option_map (λ (e : RingKey × Ring). (e.0, f e.1)) (cond b (Some e) (entry es n))
      by true rest = refl
      by false rest = rest

-- some go out
abbrev pub kept_entry : (RingKey × Ring → Bool) → Option (RingKey × Ring) → Option (RingKey × Ring)
kept_entry kept o = option_and_then (λ (e : RingKey × Ring). if kept e then Some e else None) o

pub entry_filter : (kept : RingKey × Ring → Bool) (rings : List (RingKey × Ring)) (n : ℕ) → EachTwo AreApart rings → entry (filter kept rings) n ≡ kept_entry kept (entry rings n)
entry_filter kept [] n apart = refl
entry_filter kept (e ∷ es) n apart = by (kept e) refl (e.1.serial == n) refl (entry_filter kept es n apart.1) where
  none : e.1.serial ≡ n → entry es n ≡ None
  none same = entry_none es n (each_weak (AreApart e) (λ (f : RingKey × Ring). f.1.serial ≢ n) (λ f a h. a.serials (same ∙ sym h)) es apart.0)

  by : (k : Bool) → kept e ≡ k → (b : Bool) → (e.1.serial == n) ≡ b → entry (filter kept es) n ≡ kept_entry kept (entry es n)
      → entry (cond k (e ∷ filter kept es) (filter kept es)) n ≡ kept_entry kept (cond b (Some e) (entry es n))
  by true keeps true is rest = ap (λ (b : Bool). cond b (Some e) (entry (filter kept es) n)) is ∙ sym (ap (λ (b : Bool). if b then Some e else None) keeps)
  by true keeps false is rest = ap (λ (b : Bool). cond b (Some e) (entry (filter kept es) n)) is ∙ rest
  by false keeps true is rest = rest ∙ ap (kept_entry kept) (none (eqb_is e.1.serial n is)) ∙ sym (ap (λ (b : Bool). if b then Some e else None) keeps)
  by false keeps false is rest = rest

-- ---- where a ring stands

-- what is known of a ring that stands
pub record Stands (s : State) (name : RingName) (at : RingAt) : Type 0 where
  pub owner : at.owner ≡ name.owner
  pub domain : domain_of s name.owner ≡ Some at.domain
  pub generation : at.domain.generation ≡ name.generation
  pub life : at.domain.life ≡ Some at.live
  pub lives : owner_in s name ≡ Some at.live
  pub entry : entry at.live.rings name.serial ≡ Some (at.key, at.ring)
  pub serial : at.ring.serial ≡ name.serial

pub stands : (s : State) (name : RingName) (at : RingAt) → standing s name ≡ Some at → Stands s name at
stands s name at h = there (domain_of s name.owner) refl h where
  found : (x : Domain) → domain_of s name.owner ≡ Some x → (live : Live) → life_in name.generation x ≡ Some live → x.life ≡ Some live → x.generation ≡ name.generation
      → (o : Option (RingKey × Ring)) → find (λ (e : RingKey × Ring). e.1.serial == name.serial) live.rings ≡ o
      → option_map (λ (e : RingKey × Ring). record { owner = name.owner; domain = x; live = live; key = e.0; ring = e.1 }) o ≡ Some at → Stands s name at
  found x here live lives life gen None is h = cc
  found x here live lives life gen (Some e) is h =
      subst (Stands s name) (at_is (record { owner = name.owner; domain = x; live = live; key = e.0; ring = e.1 }) h)
      (record {
        owner = refl;
        domain = here;
        generation = gen;
        life = life;
        lives = ap (option_and_then (life_in name.generation)) here ∙ lives;
        entry = is;
        serial = entry_serial live.rings name.serial e is;
      }) where
        at_is : (a : RingAt) → Some a ≡ Some at → a ≡ at
        at_is a h = cc

  lives : (x : Domain) → domain_of s name.owner ≡ Some x → (o : Option Live) → life_in name.generation x ≡ o → option_and_then (standing_in name x) o ≡ Some at → Stands s name at
  lives x here None is h = cc
  lives x here (Some live) is h =
      let p = own_life x live is in
      found x here live is p.0 p.1 (find (λ (e : RingKey × Ring). e.1.serial == name.serial) live.rings) refl h where
        own_life : (x : Domain) (live : Live) → life_in name.generation x ≡ Some live → (x.life ≡ Some live) × (x.generation ≡ name.generation)
        own_life x live h = by (x.generation == name.generation) refl h where
          by : (b : Bool) → (x.generation == name.generation) ≡ b → (if b then x.life else None) ≡ Some live → (x.life ≡ Some live) × (x.generation ≡ name.generation)
          by true is h = (h, eqb_is x.generation name.generation is)
          by false is h = cc

  there : (o : Option Domain) → domain_of s name.owner ≡ o → option_and_then (standing_of_owner name) o ≡ Some at → Stands s name at
  there None here h = cc
  there (Some x) here h = lives x here (life_in name.generation x) refl h

-- nothing stands where there is no such entry
pub stands_not : (s : State) (name : RingName) → entry_of s name ≡ None → standing s name ≡ None
stands_not s name h = there (domain_of s name.owner) h where
  found : (x : Domain) (live : Live) (o : Option (RingKey × Ring)) → o ≡ None → option_map {U = RingAt} (λ (e : RingKey × Ring). record { owner = name.owner; domain = x; live = live; key = e.0; ring = e.1 }) o ≡ None
  found x live None h = refl
  found x live (Some e) h = cc

  lives : (x : Domain) (o : Option Live) → option_and_then (λ (live : Live). entry live.rings name.serial) o ≡ None → option_and_then (standing_in name x) o ≡ None
  lives x None h = refl
  lives x (Some live) h = found x live (entry live.rings name.serial) h

  there : (o : Option Domain) → option_and_then (λ (live : Live). entry live.rings name.serial) (option_and_then (life_in name.generation) o) ≡ None → option_and_then (standing_of_owner name) o ≡ None
  there None h = refl
  there (Some x) h = lives x (life_in name.generation x) h

-- a notice, by the entry
pub notice_is : (s : State) (name : RingName) (d : ℕ) → notice_on s name d ≡ option_and_then (λ (e : RingKey × Ring). size_of e.1.notices d) (entry_of s name)
notice_is s name d = there (domain_of s name.owner) where
  found : (x : Domain) (live : Live) (o : Option (RingKey × Ring))
      → option_and_then (λ (m : RingAt). size_of m.ring.notices d) (option_map (λ (e : RingKey × Ring). record { owner = name.owner; domain = x; live = live; key = e.0; ring = e.1 }) o)
      ≡ option_and_then (λ (e : RingKey × Ring). size_of e.1.notices d) o
  found x live None = refl
  found x live (Some e) = refl

  lives : (x : Domain) (o : Option Live) → option_and_then (λ (m : RingAt). size_of m.ring.notices d) (option_and_then (standing_in name x) o)
      ≡ option_and_then (λ (e : RingKey × Ring). size_of e.1.notices d) (option_and_then (λ (live : Live). entry live.rings name.serial) o)
  lives x None = refl
  lives x (Some live) = found x live (entry live.rings name.serial)

  there : (o : Option Domain) → option_and_then (λ (m : RingAt). size_of m.ring.notices d) (option_and_then (standing_of_owner name) o)
      ≡ option_and_then (λ (e : RingKey × Ring). size_of e.1.notices d) (option_and_then (λ (live : Live). entry live.rings name.serial) (option_and_then (life_in name.generation) o))
  there None = refl
  there (Some x) = lives x (life_in name.generation x)
