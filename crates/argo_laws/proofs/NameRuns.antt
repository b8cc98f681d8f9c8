-- Laws of the names of rings in a run: one that stood and stands no more is past, and never stands again.
use Rattle.std.proofs.Common.{◌≡◌, ℕ, ◌<◌, ◌≤◌, Bool, true, false, cond, if◌then◌else◌, ◌==◌, ◌⊎◌, List, [], ◌∷◌, ◌++◌, fold, slice_get, Option, Some, None, option_map, option_and_then, ⊎_elim, inl, inr, refl, sym, ap, ◌∙◌, subst, arith}
use Rattle.std.specs.Prelude.{IfSome}
use Rattle.std.proofs.lemmas.List.Sums.{fold-append}
use Rattle.std.proofs.lemmas.Bool.Decides.{nat_tests}
use Rattle.argo_base.specs.declared.ring_key.RingKey.{RingKey}
use Rattle.argo_model.specs.Laws.RingNames.{RingName, standing, standing_in, standing_of_owner}
use Rattle.argo_model.specs.Rules.Matches.{RingAt}
use Rattle.argo_model.specs.Rules.State.{State, Domain, Live, Ring, domain_of, life_in, is_alive}
use Rattle.argo_model.specs.Runs.Run.{Progress, Turn, Course, turn, after_turn, step, run}
use Rattle.argo_model.specs.Runs.Script.{Script}
use Rattle.argo_laws.specs.Beside.{NameIsOnce}
use Rattle.state_laws.specs.Each.{EachTwo}
use Rattle.state_laws.specs.Valid.{IsLive, IsValid, AreApart}
use Rattle.state_laws.proofs.Courses.{performed, valid_step, valid_run}
use Rattle.state_laws.proofs.Domains.{fit_found}
use Rattle.state_laws.proofs.Lives.{In, each_in}
use Rattle.argo_laws.proofs.EndSteps.{entry_at, entry_each}
use Rattle.argo_laws.proofs.Grown.{Grown, From, Was}
use Rattle.argo_laws.proofs.Names.{entry, entry_of, entry_serial, eqb_not, eqb_self}
use Rattle.argo_laws.proofs.NameSteps.{LifeLater, Later, AllLater, all_same, act_later}

eqb_is : (a b : ℕ) → (a == b) ≡ true → a ≡ b
eqb_is a b h = grind (arith, nat_tests)

-- ---- names that are not given any more

abbrev LifePast : ℕ → Option Live → Type 0
LifePast n None = Unit {0}
LifePast n (Some live) = n < live.next_serial

abbrev DomainPast : ℕ → ℕ → Domain → Type 0
DomainPast g n x = (g < x.generation) ⊎ ((g ≡ x.generation) × LifePast n x.life)

-- a name of this generation and serial is not given any more
abbrev Past : ℕ → ℕ → Option Domain → Type 0
Past g n None = ⊥
Past g n (Some x) = DomainPast g n x

life_on : (n : ℕ) (l m : Option Live) → LifeLater l m → LifePast n l → LifePast n m
life_on n None None h past = tt
life_on n None (Some new) h past = absurd h
life_on n (Some old) None h past = tt
life_on n (Some old) (Some new) h past = let up = h.serials in omega arith

-- it stays so
past_on : (g n : ℕ) (o p : Option Domain) → Later o p → Past g n o → Past g n p
past_on g n None None h past = absurd past
past_on g n None (Some y) h past = absurd past
past_on g n (Some x) None h past = absurd h
past_on g n (Some x) (Some y) h past = ⊎_elim up same h where
  up : x.generation < y.generation → DomainPast g n y
  up less = ⊎_elim (λ p. inl (omega arith)) (λ p. let e = p.0 in inl (omega arith)) past

  same : (x.generation ≡ y.generation) × LifeLater x.life y.life → DomainPast g n y
  same k = let e = k.0 in ⊎_elim (λ p. inl (omega arith)) (λ p. inr (p.0 ∙ k.0, life_on n x.life y.life k.1 p.1)) past

-- ---- a ring that stands after a step, of a name that was not given any more before it

-- a ring among those of a domain is found by its serial
entry_in : (rings : List (RingKey × Ring)) (e : RingKey × Ring) (n : ℕ) → EachTwo AreApart rings → e.1.serial ≡ n → In e rings → entry rings n ≡ Some e
entry_in [] e n apart serial i = absurd i
entry_in (f ∷ fs) e n apart serial i = ⊎_elim first (λ later. behind later (entry_in fs e n apart.1 serial later)) i where
  first : f ≡ e → entry (f ∷ fs) n ≡ Some e
  first same =
      let is : (f.1.serial == n) ≡ true = subst (λ k. (f.1.serial == k) ≡ true) (ap (λ (z : RingKey × Ring). z.1.serial) same ∙ serial) (eqb_self f.1.serial) in
      ap (λ (b : Bool). cond b (Some f) (entry fs n)) is ∙ ap (λ (z : RingKey × Ring). Some z) same

  behind : In e fs → entry fs n ≡ Some e → entry (f ∷ fs) n ≡ Some e
  behind later rest =
      let a = each_in (AreApart f) e fs later apart.0 in
      ap (λ (b : Bool). cond b (Some f) (entry fs n)) (eqb_not f.1.serial n (λ same. a.serials (same ∙ sym serial))) ∙ rest

-- it stood before, under the same key
record Stood (g n : ℕ) (o : Option Domain) (under : RingKey) : Type 0 where
  ring : RingKey × Ring
  stood : entry_at g n o ≡ Some ring
  key : ring.0 ≡ under

module _ (s : State) (valid : IsValid s) (g n q : ℕ) where
  -- what a domain that is found has is as it should be
  fit_of : (x : Domain) → domain_of s q ≡ Some x → IfSome x.life (IsLive (is_alive s))
  fit_of x here = fit_found (is_alive s) s q x here valid.lives

  was_life : (old new : Live) → IsLive (is_alive s) old → Grown old new → n < old.next_serial → (e : RingKey × Ring) → entry new.rings n ≡ Some e
      → (f : RingKey × Ring) × (entry old.rings n ≡ Some f) × (f.0 ≡ e.0)
  was_life old new h grown less e stands = ⊎_elim was (λ made. absurd (no made)) (entry_each (From old.next_serial old.rings) new.rings n e stands grown.rings) where
    serial : e.1.serial ≡ n
    serial = entry_serial new.rings n e stands

    was : Was old.rings e → (f : RingKey × Ring) × (entry old.rings n ≡ Some f) × (f.0 ≡ e.0)
    was w = (w.ring, entry_in old.rings w.ring n h.apart (w.serial ∙ serial) w.is_in, w.key)

    no : old.next_serial ≤ e.1.serial → ⊥
    no made = let i = serial in omega arith

  was : (o p : Option Domain) → domain_of s q ≡ o → Later o p → Past g n o → (e : RingKey × Ring) → entry_at g n p ≡ Some e → Stood g n o e.0
  was None p here later past e stands = absurd past
  was (Some x) None here later past e stands = absurd later
  was (Some x) (Some y) here later past e stands = by (y.generation == g) refl stands where
    lives : x.generation ≡ g → (l m : Option Live) → IfSome l (IsLive (is_alive s)) → LifeLater l m → LifePast n l → option_and_then (λ (live : Live). entry live.rings n) m ≡ Some e
        → (f : RingKey × Ring) × (option_and_then (λ (live : Live). entry live.rings n) l ≡ Some f) × (f.0 ≡ e.0)
    lives gen None None fit k p stands = cc
    lives gen None (Some new) fit k p stands = absurd k
    lives gen (Some old) None fit k p stands = cc
    lives gen (Some old) (Some new) fit k p stands = was_life old new fit k p e stands

    -- in its generation
    here_in : y.generation ≡ g → option_and_then (λ (live : Live). entry live.rings n) y.life ≡ Some e → (x.generation ≡ y.generation) × LifeLater x.life y.life → (g ≡ x.generation) × LifePast n x.life
        → Stood g n (Some x) e.0
    here_in gen stands k p =
        let f = lives (sym p.0) x.life y.life (fit_of x here) k.1 p.1 stands in
        let is : (x.generation == g) ≡ true = subst (λ z. (x.generation == z) ≡ true) (sym p.0) (eqb_self x.generation) in
        record { ring = f.0; stood = ap (λ (b : Bool). option_and_then (λ (live : Live). entry live.rings n) (if b then x.life else None)) is ∙ f.1; key = f.2 }

    in_generation : y.generation ≡ g → option_and_then (λ (live : Live). entry live.rings n) y.life ≡ Some e → Stood g n (Some x) e.0
    in_generation gen stands =
        ⊎_elim (λ up. ⊎_elim (λ p. absurd (above up p)) (λ p. absurd (risen up p.0)) past) (λ k. ⊎_elim (λ p. absurd (gone k.0 p)) (λ p. here_in gen stands k p) past) later where
          above : x.generation < y.generation → g < x.generation → ⊥
          above up p = omega arith

          risen : x.generation < y.generation → g ≡ x.generation → ⊥
          risen up p = omega arith

          gone : x.generation ≡ y.generation → g < x.generation → ⊥
          gone same p = omega arith

    by : (b : Bool) → (y.generation == g) ≡ b → option_and_then (λ (live : Live). entry live.rings n) (if b then y.life else None) ≡ Some e → Stood g n (Some x) e.0
    by true is stands = in_generation (eqb_is y.generation g is) stands
    by false is stands = cc

  -- a name that stands is not given any more
  past_of : (o : Option Domain) → domain_of s q ≡ o → (e : RingKey × Ring) → entry_at g n o ≡ Some e → Past g n o
  past_of None here e stands = cc
  past_of (Some x) here e stands = by (x.generation == g) refl stands where
    life : (l : Option Live) → IfSome l (IsLive (is_alive s)) → option_and_then (λ (live : Live). entry live.rings n) l ≡ Some e → LifePast n l
    life None fit stands = cc
    life (Some live) fit stands =
        subst (λ k. k < live.next_serial) (entry_serial live.rings n e stands) (entry_each (λ (f : RingKey × Ring). f.1.serial < live.next_serial) live.rings n e stands fit.serials_are_made)

    by : (b : Bool) → (x.generation == g) ≡ b → option_and_then (λ (live : Live). entry live.rings n) (if b then x.life else None) ≡ Some e → DomainPast g n x
    by true is stands = inr (sym (eqb_is x.generation g is), life x.life (fit_of x here) stands)
    by false is stands = cc

-- ---- runs

turn_later : (s : State) (p : Progress) (t : Turn) → IsValid s → turn s p ≡ Some t → AllLater s t.state
turn_later s p t valid h = let d = performed s p t h in subst (AllLater s) (sym d.state) (act_later s valid p.actor t.action)

step_later : (c : Course) (v : ℕ) → IsValid c.state → AllLater c.state (step c v).state
step_later c v valid = by (slice_get c.sections v) where
  turned : (p : Progress) (o : Option Turn) → turn c.state p ≡ o → AllLater c.state (after_turn c v o).state
  turned p None h = all_same c.state
  turned p (Some t) h = turn_later c.state p t valid h

  by : (o : Option Progress) → AllLater c.state (after_turn c v (option_and_then (turn c.state) o)).state
  by None = all_same c.state
  by (Some p) = turned p (turn c.state p) refl

module _ (name : RingName) where
  abbrev IsPast : State → Type 0
  IsPast s = Past name.generation name.serial (domain_of s name.owner)

  -- the key of the ring of the name
  abbrev key_in : State → Option RingKey
  key_in s = option_map (λ (e : RingKey × Ring). e.0) (entry_of s name)

  past_from : (c : Course) (vs : List ℕ) → IsValid c.state → IsPast c.state → IsPast (fold step c vs).state
  past_from c [] valid past = past
  past_from c (v ∷ vs) valid past =
      past_from (step c v) vs (valid_step c v valid)
      (past_on name.generation name.serial (domain_of c.state name.owner) (domain_of (step c v).state name.owner) (step_later c v valid name.owner) past)

  key_entry : (s : State) (key : RingKey) → key_in s ≡ Some key → (e : RingKey × Ring) × (entry_of s name ≡ Some e) × (e.0 ≡ key)
  key_entry s key h = by (entry_of s name) refl h where
    by : (o : Option (RingKey × Ring)) → entry_of s name ≡ o → option_map (λ (e : RingKey × Ring). e.0) o ≡ Some key → (e : RingKey × Ring) × (entry_of s name ≡ Some e) × (e.0 ≡ key)
    by None is h = cc
    by (Some e) is h = (e, is, cc)

  -- where it stands after more steps, it stood
  stood_from : (c : Course) (vs : List ℕ) (key : RingKey) → IsValid c.state → IsPast c.state → key_in (fold step c vs).state ≡ Some key → key_in c.state ≡ Some key
  stood_from c [] key valid past stands = stands
  stood_from c (v ∷ vs) key valid past stands =
      let on = past_on name.generation name.serial (domain_of c.state name.owner) (domain_of (step c v).state name.owner) (step_later c v valid name.owner) past in
      let next = key_entry (step c v).state key (stood_from (step c v) vs key (valid_step c v valid) on stands) in
      let w = was c.state valid name.generation name.serial name.owner (domain_of c.state name.owner) (domain_of (step c v).state name.owner) refl (step_later c v valid name.owner) past next.0 next.1 in
      ap (option_map (λ (e : RingKey × Ring). e.0)) w.stood ∙ ap (λ k. Some k) (w.key ∙ next.2)

  past_here : (c : Course) (key : RingKey) → IsValid c.state → key_in c.state ≡ Some key → IsPast c.state
  past_here c key valid stands =
      let e = key_entry c.state key stands in
      past_of c.state valid name.generation name.serial name.owner (domain_of c.state name.owner) refl e.0 e.1

  -- the same of a ring that stands
  key_is : (s : State) → option_map (λ (m : RingAt). m.key) (standing s name) ≡ key_in s
  key_is s = there (domain_of s name.owner) where
    found : (x : Domain) (live : Live) (o : Option (RingKey × Ring))
        → option_map (λ (m : RingAt). m.key) (option_map (λ (e : RingKey × Ring). record { owner = name.owner; domain = x; live = live; key = e.0; ring = e.1 }) o)
        ≡ option_map (λ (e : RingKey × Ring). e.0) o
    found x live None = refl
    found x live (Some e) = refl

    lives : (x : Domain) (o : Option Live) → option_map (λ (m : RingAt). m.key) (option_and_then (standing_in name x) o)
        ≡ option_map (λ (e : RingKey × Ring). e.0) (option_and_then (λ (live : Live). entry live.rings name.serial) o)
    lives x None = refl
    lives x (Some live) = found x live (entry live.rings name.serial)

    there : (o : Option Domain) → option_map (λ (m : RingAt). m.key) (option_and_then (standing_of_owner name) o) ≡ option_map (λ (e : RingKey × Ring). e.0) (entry_at name.generation name.serial o)
    there None = refl
    there (Some x) = lives x (life_in name.generation x)

  stands_key : (s : State) (at : RingAt) → standing s name ≡ Some at → key_in s ≡ Some at.key
  stands_key s at h = sym (key_is s) ∙ ap (option_map (λ (m : RingAt). m.key)) h

module _ (s : Script) (steps more rest : List ℕ) (name : RingName) where
  run_more : (run s (steps ++ more)).state ≡ (fold step (run s steps) more).state
  run_more = ap (λ (c : Course). c.state) (fold-append step (run s []) steps more)

  run_rest : (run s (steps ++ more ++ rest)).state ≡ (fold step (run s (steps ++ more)) rest).state
  run_rest = ap (λ (c : Course). c.state) (fold-append step (run s []) (steps ++ more) rest)

  -- where a name stands after steps and after more and the rest of them, it stands in between under the same key
  between : (first : RingAt) (key : RingKey) → standing (run s steps).state name ≡ Some first → key_in name (run s (steps ++ more ++ rest)).state ≡ Some key
      → key_in name (run s (steps ++ more)).state ≡ Some key
  between first key stood stands =
      let past = past_here name (run s steps) first.key (valid_run s steps) (stands_key name (run s steps).state first stood) in
      let on = subst (IsPast name) (sym run_more) (past_from name (run s steps) more (valid_run s steps) past) in
      stood_from name (run s (steps ++ more)) rest key (valid_run s (steps ++ more)) on (subst (λ u. key_in name u ≡ Some key) run_rest stands)

  before : (first : RingAt) (key : RingKey) → standing (run s steps).state name ≡ Some first → key_in name (run s (steps ++ more)).state ≡ Some key → key_in name (run s steps).state ≡ Some key
  before first key stood stands =
      let past = past_here name (run s steps) first.key (valid_run s steps) (stands_key name (run s steps).state first stood) in
      stood_from name (run s steps) more key (valid_run s steps) past (subst (λ u. key_in name u ≡ Some key) run_more stands)

  some_key : (a b : RingKey) (o : Option RingKey) → o ≡ Some a → o ≡ Some b → a ≡ b
  some_key a b o h g = cc

  no_key : (u : State) (key : RingKey) → standing u name ≡ None → key_in name u ≡ Some key → ⊥
  no_key u key none some = contra (key_in name u) (sym (key_is name u) ∙ ap (option_map (λ (m : RingAt). m.key)) none) some where
    contra : (o : Option RingKey) → o ≡ None → o ≡ Some key → ⊥
    contra o h g = cc

  pub once : NameIsOnce s steps more rest name
  once =
      record {
        never_again = λ at stood gone. never at stood gone (standing (run s (steps ++ more ++ rest)).state name) refl;
        same_key = λ first last stood stands.
            some_key last.key first.key (key_in name (run s steps).state)
            (before first last.key stood (stands_key name (run s (steps ++ more)).state last stands)) (stands_key name (run s steps).state first stood);
      } where
        never : (at : RingAt) → standing (run s steps).state name ≡ Some at → standing (run s (steps ++ more)).state name ≡ None
            → (o : Option RingAt) → standing (run s (steps ++ more ++ rest)).state name ≡ o → standing (run s (steps ++ more ++ rest)).state name ≡ None
        never at stood gone None is = is
        never at stood gone (Some last) is =
            absurd (no_key (run s (steps ++ more)).state last.key gone (between at last.key stood (stands_key name (run s (steps ++ more ++ rest)).state last is)))
