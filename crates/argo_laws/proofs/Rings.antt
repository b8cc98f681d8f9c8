-- Laws of a step by its rings: what it does to notices and flags follows from what it does to each named ring, and whom it signals.
use Rattle.std.proofs.Common.{◌≡◌, ◌≢◌, ℕ, Bool, true, false, ◌⊎◌, List, [], ◌∷◌, ◌++◌, Option, Some, None, option_and_then, ⊎_elim, inl, inr, refl, sym, ap, ◌∙◌, subst}
use Rattle.std.specs.Map.{lookup, set_value}
use Rattle.std.specs.BTreeMap.{is_at}
use Rattle.std.proofs.lemmas.Bool.{cases_eq, false≢true}
use Rattle.argo_base.specs.declared.errno.Errno.{Errno}
use Rattle.argo_base.specs.declared.ring_key.RingKey.{RingKey}
use Rattle.argo_base.specs.Match.{key_cmp}
use Rattle.argo_base.specs.Notices.{size_of}
use Rattle.argo_model.specs.declared.action.Action.{Action}
use Rattle.argo_model.specs.declared.action.Outcome.{Outcome}
use Rattle.argo_model.specs.declared.reply.Reply.{Reply}
use Rattle.argo_model.specs.declared.scripts.Actor.{Actor}
use Rattle.argo_model.specs.Laws.Flags.{SetsFlag}
use Rattle.argo_model.specs.Laws.NoticeEnds.{has_flag, EndsLegally, MakesNotice}
use Rattle.argo_model.specs.Laws.RingNames.{RingName, standing, notice_on}
use Rattle.argo_model.specs.Laws.Transitions.{Transition}
use Rattle.argo_model.specs.Rules.Effects.{Change, Effect, refused, refuse_if, change_in, with_life}
use Rattle.argo_model.specs.Rules.Matches.{RingAt}
use Rattle.argo_model.specs.Rules.State.{State, Domain, Live, Ring, is_alive, change_domain, signal_all}
use Rattle.argo_laws.specs.Steps.{FlagsStay, StandsWith, NoticesStand}
use Rattle.state_laws.specs.Each.{Each}
use Rattle.state_laws.specs.Valid.{IsLive, AreApart}
use Rattle.state_laws.proofs.Lists.{each_weak}
use Rattle.state_laws.proofs.Lives.{In, Chosen, chosen}
use Rattle.argo_laws.proofs.Names.{entry, entry_of, entry_none, entry_other, entry_mid, Stands, stands, notice_is}
use Rattle.argo_laws.proofs.Changes.{Found, entry_else, entry_before, entry_after, entry_past, signal_set, signal_keeps, flag_same}
use Rattle.argo_laws.proofs.Sizes.{still}

-- what a step may do to flags and notices
pub record Lawful (t : Transition) : Type 0 where
  pub flags : FlagsStay t
  pub notices : NoticesStand t

-- a named ring ends in a step
pub record RingEnded (t : Transition) (name : RingName) (e : RingKey × Ring) : Type 0 where
  pub ends : (at : RingAt) → Stands t.before name at → (d size : ℕ) → size_of e.1.notices d ≡ Some size → EndsLegally t at d size

-- a named ring goes on
pub record RingGoes (t : Transition) (name : RingName) (e f : RingKey × Ring) : Type 0 where
  pub ends : (at : RingAt) → Stands t.before name at → (d size : ℕ) → size_of e.1.notices d ≡ Some size
      → StandsWith size (size_of f.1.notices d) ⊎ ((size_of f.1.notices d ≡ None) × EndsLegally t at d size)
  pub made : (d size : ℕ) → size_of f.1.notices d ≡ Some size → (size_of e.1.notices d ≡ Some size) ⊎ MakesNotice t name d

-- what a step does to a named ring
abbrev pub Does : Transition → RingName → Option (RingKey × Ring) → Option (RingKey × Ring) → Type 0
Does t name None None = Unit {0}
Does t name None (Some f) = f.1.notices ≡ []
Does t name (Some e) None = RingEnded t name e
Does t name (Some e) (Some f) = RingGoes t name e f

pub goes_same : (t : Transition) (name : RingName) (e f : RingKey × Ring) → f.1.notices ≡ e.1.notices → RingGoes t name e f
goes_same t name e f same =
    record {
      ends = λ at st d size h. inl (subst (λ ns. StandsWith size (size_of ns d)) (sym same) (still e.1.notices d size h));
      made = λ d size h. inl (ap (λ ns. size_of ns d) (sym same) ∙ h);
    }

pub does_same : (t : Transition) (name : RingName) (o p : Option (RingKey × Ring)) → p ≡ o → Does t name o p
does_same t name o p same = subst (Does t name o) (sym same) (by o) where
  by : (o : Option (RingKey × Ring)) → Does t name o o
  by None = tt
  by (Some e) = goes_same t name e e refl

-- so what holds of every ring holds of every notice
pub notices_by : (t : Transition) → ((name : RingName) → Does t name (entry_of t.before name) (entry_of t.after name)) → NoticesStand t
notices_by t does = record { stand = stand; made = made } where
  stand : (name : RingName) (at : RingAt) (d size : ℕ) → standing t.before name ≡ Some at → size_of at.ring.notices d ≡ Some size
      → StandsWith size (notice_on t.after name d) ⊎ ((notice_on t.after name d ≡ None) × EndsLegally t at d size)
  stand name at d size h s =
      let st = stands t.before name at h in
      let e : entry_of t.before name ≡ Some (at.key, at.ring) = ap (option_and_then (λ (live : Live). entry live.rings name.serial)) st.lives ∙ st.entry in
      by st (entry_of t.after name) refl (subst (λ (o : Option (RingKey × Ring)). Does t name o (entry_of t.after name)) e (does name)) where
        by : Stands t.before name at → (o : Option (RingKey × Ring)) → entry_of t.after name ≡ o → Does t name (Some (at.key, at.ring)) o
            → StandsWith size (notice_on t.after name d) ⊎ ((notice_on t.after name d ≡ None) × EndsLegally t at d size)
        by st None is g = inr (notice_is t.after name d ∙ ap (option_and_then (λ (e : RingKey × Ring). size_of e.1.notices d)) is, g.ends at st d size s)
        by st (Some f) is g =
            subst (λ (o : Option ℕ). StandsWith size o ⊎ ((o ≡ None) × EndsLegally t at d size))
            (sym (notice_is t.after name d ∙ ap (option_and_then (λ (e : RingKey × Ring). size_of e.1.notices d)) is)) (g.ends at st d size s)

  made : (name : RingName) (d size : ℕ) → notice_on t.after name d ≡ Some size → (notice_on t.before name d ≡ Some size) ⊎ MakesNotice t name d
  made name d size h = by (entry_of t.before name) refl (entry_of t.after name) refl (does name) where
    by : (o : Option (RingKey × Ring)) → entry_of t.before name ≡ o → (p : Option (RingKey × Ring)) → entry_of t.after name ≡ p → Does t name o p
        → (notice_on t.before name d ≡ Some size) ⊎ MakesNotice t name d
    by o was None is g = let n : notice_on t.after name d ≡ None = notice_is t.after name d ∙ ap (option_and_then (λ (e : RingKey × Ring). size_of e.1.notices d)) is in cc
    by None was (Some f) is g =
        let n : notice_on t.after name d ≡ None =
        notice_is t.after name d ∙ ap (option_and_then (λ (e : RingKey × Ring). size_of e.1.notices d)) is ∙ ap (λ ns. size_of ns d) g in
        cc
    by (Some e) was (Some f) is g =
        let n : size_of f.1.notices d ≡ Some size = sym (notice_is t.after name d ∙ ap (option_and_then (λ (e : RingKey × Ring). size_of e.1.notices d)) is) ∙ h in
        ⊎_elim (λ same. inl (notice_is t.before name d ∙ ap (option_and_then (λ (e : RingKey × Ring). size_of e.1.notices d)) was ∙ same)) (λ m. inr m) (g.made d size n)

-- a step that leaves the state
pub lawful_same : (t : Transition) → t.after ≡ t.before → Lawful t
lawful_same t same =
    record {
      flags = record {
        set = λ d was is. absurd (false≢true (sym was ∙ sym (ap (λ s. has_flag s d) same) ∙ is));
        cleared = λ d was is. absurd (false≢true (sym is ∙ ap (λ s. has_flag s d) same ∙ was));
      };
      notices = notices_by t (λ name. does_same t name (entry_of t.before name) (entry_of t.after name) (ap (λ s. entry_of s name) same));
    }

-- ---- steps of one section from one state

module _ (actor : Actor) (v k : ℕ) (r : Option Reply) (s : State) where
  abbrev pub moves_to : Action → Effect → Transition
  moves_to a e = record { actor = actor; step = record { vcpu = v; line = k; action = a; outcome = e.outcome; reply = r }; before = s; after = e.state }

  -- a chain of refusals
  pub lawful_if : (a : Action) (to : ℕ) (test : Bool) (e : Errno) (rest : Change Live) → (test ≡ false → Lawful (moves_to a (change_in s to rest))) → Lawful (moves_to a (change_in s to (refuse_if test e rest)))
  lawful_if a to true e rest h = lawful_same (moves_to a (change_in s to (refused e))) refl
  lawful_if a to false e rest h = h refl

  module _ (to : ℕ) (y : Domain) (old : Live) (f : Found s to y old) (a : Action) (o : Outcome) (new : Live) (ds : List ℕ) where
    -- what a domain has is replaced, and others are signalled
    abbrev pub replaced : Transition
    replaced = moves_to a (change_in s to (record { outcome = o; left = Some new; signals = ds }))

    -- flags
    pub flags_by : new.flag ≡ old.flag → ((q : ℕ) → In q ds → SetsFlag replaced q) → FlagsStay replaced
    flags_by same sets =
        record {
          set = λ q was is. ⊎_elim (λ h. absurd (false≢true (sym was ∙ sym (flag_same s to y old f new same q) ∙ h))) (λ i. sets q i) (signal_set ds (change_domain s to (with_life new)) q is);
          cleared = λ q was is. absurd (false≢true (sym is ∙ signal_keeps ds (change_domain s to (with_life new)) q (flag_same s to y old f new same q ∙ was)));
        }

    -- rings
    pub rings_by : ((name : RingName) → to ≡ name.owner → y.generation ≡ name.generation → Does replaced name (entry old.rings name.serial) (entry new.rings name.serial)) → NoticesStand replaced
    rings_by does = notices_by replaced each where
      each : (name : RingName) → Does replaced name (entry_of s name) (entry_of (signal_all (change_domain s to (with_life new)) ds) name)
      each name =
          ⊎_elim (λ owner. ⊎_elim
          (λ gen. subst (λ (e : Option (RingKey × Ring)). Does replaced name e (entry_of (signal_all (change_domain s to (with_life new)) ds) name)) (sym (entry_before s to y old f new ds name owner gen))
          (subst (Does replaced name (entry old.rings name.serial)) (sym (entry_after s to y old f new ds name owner gen)) (does name owner gen)))
          (λ gen. let p = entry_past s to y old f new ds name owner gen in does_same replaced name (entry_of s name) (entry_of (signal_all (change_domain s to (with_life new)) ds) name) (p.1 ∙ sym p.0))
          (cases_eq y.generation name.generation))
          (λ apart. does_same replaced name (entry_of s name) (entry_of (signal_all (change_domain s to (with_life new)) ds) name) (entry_else s to y old f new ds name apart))
          (cases_eq to name.owner)

-- ---- one ring of a domain

-- a ring where it stands
abbrev pub made_at : ℕ → Domain → Live → RingKey → Ring → RingAt
made_at owner x live key ring = record { owner = owner; domain = x; live = live; key = key; ring = ring }

abbrev pub made_name : ℕ → ℕ → ℕ → RingName
made_name owner generation serial = record { owner = owner; generation = generation; serial = serial }

module _ (s : State) (to : ℕ) (y : Domain) (old : Live) (f : Found s to y old) (key : RingKey) (r : Ring) (h : IsLive (is_alive s) old) (here : lookup (is_at (key_cmp key)) old.rings ≡ Some r) where
  abbrev pub place : RingAt
  place = made_at to y old key r

  pub choice : Chosen (is_alive s) old key r
  choice = chosen (is_alive s) old key r h here

  -- no other ring of the domain has its serial
  pub alone : (w : RingKey × Ring) → w.1.serial ≡ r.serial → Each (λ (e : RingKey × Ring). e.1.serial ≢ w.1.serial) (choice.before ++ choice.after)
  alone w same = each_weak (AreApart (key, r)) (λ (e : RingKey × Ring). e.1.serial ≢ w.1.serial) (λ e a g. a.serials (sym same ∙ sym g)) (choice.before ++ choice.after) choice.apart

  pub entry_old : entry old.rings r.serial ≡ Some (key, r)
  entry_old = ap (λ (rs : List (RingKey × Ring)). entry rs r.serial) choice.whole ∙ entry_mid (key, r) choice.before choice.after (alone (key, r) refl)

  -- the ring that stands under its name is this one
  pub stands_here : (at : RingAt) → Stands s (made_name to y.generation r.serial) at → at ≡ place
  stands_here at st =
      let x : at.domain ≡ y = some_domain at.domain y (sym st.domain ∙ f.here) in
      let l : at.live ≡ old = some_live at.live old (sym st.life ∙ ap (λ (z : Domain). z.life) x ∙ f.life) in
      let e : (at.key, at.ring) ≡ (key, r) = some_entry (at.key, at.ring) (key, r) (sym st.entry ∙ ap (λ (z : Live). entry z.rings r.serial) l ∙ entry_old) in
      ap (λ o. made_at o at.domain at.live at.key at.ring) st.owner
      ∙ ap (λ z. made_at to z at.live at.key at.ring) x
      ∙ ap (λ z. made_at to y z at.key at.ring) l
      ∙ ap (λ (z : RingKey × Ring). made_at to y old z.0 z.1) e where
        some_domain : (a b : Domain) → Some a ≡ Some b → a ≡ b
        some_domain a b h = cc

        some_live : (a b : Live) → Some a ≡ Some b → a ≡ b
        some_live a b h = cc

        some_entry : (a b : RingKey × Ring) → Some a ≡ Some b → a ≡ b
        some_entry a b h = cc

  module _ (t : Transition) where
    -- where the ring is changed, and keeps its serial
    pub goes_here : (q : Ring) → q.serial ≡ r.serial → RingGoes t (made_name to y.generation r.serial) (key, r) (key, q) → (name : RingName) → to ≡ name.owner → y.generation ≡ name.generation
        → Does t name (entry old.rings name.serial) (entry (set_value (is_at (key_cmp key)) old.rings q) name.serial)
    goes_here q serial goes name owner gen =
        subst (λ (rs : List (RingKey × Ring)). Does t name (entry old.rings name.serial) (entry rs name.serial)) (sym (choice.changed q))
        (subst (λ (rs : List (RingKey × Ring)). Does t name (entry rs name.serial) (entry (choice.before ++ (key, q) ∷ choice.after) name.serial)) (sym choice.whole)
        (⊎_elim (λ same. this same) (λ other. does_same t name (entry (choice.before ++ (key, r) ∷ choice.after) name.serial) (entry (choice.before ++ (key, q) ∷ choice.after) name.serial)
        (entry_other (key, q) choice.before choice.after name.serial (λ g. other (sym serial ∙ g)) ∙ sym (entry_other (key, r) choice.before choice.after name.serial other)))
        (cases_eq r.serial name.serial))) where
          this : r.serial ≡ name.serial → Does t name (entry (choice.before ++ (key, r) ∷ choice.after) name.serial) (entry (choice.before ++ (key, q) ∷ choice.after) name.serial)
          this same =
              let e : entry (choice.before ++ (key, r) ∷ choice.after) name.serial ≡ Some (key, r) = subst (λ n. entry (choice.before ++ (key, r) ∷ choice.after) n ≡ Some (key, r)) same (entry_mid (key, r) choice.before choice.after (alone (key, r) refl)) in
              let g : entry (choice.before ++ (key, q) ∷ choice.after) name.serial ≡ Some (key, q) = subst (λ n. entry (choice.before ++ (key, q) ∷ choice.after) n ≡ Some (key, q)) (serial ∙ same) (entry_mid (key, q) choice.before choice.after (alone (key, q) serial)) in
              let n : made_name to y.generation r.serial ≡ name = ap (λ o. made_name o y.generation r.serial) owner ∙ ap (λ g. made_name name.owner g r.serial) gen ∙ ap (made_name name.owner name.generation) same in
              subst (λ (o : Option (RingKey × Ring)). Does t name o (entry (choice.before ++ (key, q) ∷ choice.after) name.serial)) (sym e)
              (subst (Does t name (Some (key, r))) (sym g) (subst (λ m. RingGoes t m (key, r) (key, q)) n goes))

    -- where it goes out
    pub ends_here : RingEnded t (made_name to y.generation r.serial) (key, r) → (name : RingName) → to ≡ name.owner → y.generation ≡ name.generation
        → Does t name (entry old.rings name.serial) (entry (choice.before ++ choice.after) name.serial)
    ends_here ended name owner gen =
        subst (λ (rs : List (RingKey × Ring)). Does t name (entry rs name.serial) (entry (choice.before ++ choice.after) name.serial)) (sym choice.whole)
        (⊎_elim (λ same. this same) (λ other. does_same t name (entry (choice.before ++ (key, r) ∷ choice.after) name.serial) (entry (choice.before ++ choice.after) name.serial)
        (sym (entry_other (key, r) choice.before choice.after name.serial other))) (cases_eq r.serial name.serial)) where
          this : r.serial ≡ name.serial → Does t name (entry (choice.before ++ (key, r) ∷ choice.after) name.serial) (entry (choice.before ++ choice.after) name.serial)
          this same =
              let e : entry (choice.before ++ (key, r) ∷ choice.after) name.serial ≡ Some (key, r) = subst (λ n. entry (choice.before ++ (key, r) ∷ choice.after) n ≡ Some (key, r)) same (entry_mid (key, r) choice.before choice.after (alone (key, r) refl)) in
              let g : entry (choice.before ++ choice.after) name.serial ≡ None = subst (λ n. entry (choice.before ++ choice.after) n ≡ None) same (entry_none (choice.before ++ choice.after) r.serial (alone (key, r) refl)) in
              let n : made_name to y.generation r.serial ≡ name = ap (λ o. made_name o y.generation r.serial) owner ∙ ap (λ g. made_name name.owner g r.serial) gen ∙ ap (made_name name.owner name.generation) same in
              subst (λ (o : Option (RingKey × Ring)). Does t name o (entry (choice.before ++ choice.after) name.serial)) (sym e)
              (subst (Does t name (Some (key, r))) (sym g) (subst (λ m. RingEnded t m (key, r)) n ended))
