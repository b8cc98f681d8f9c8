-- Laws of the levels after an act: valid, and with exact lists.
use Rattle.std.proofs.Common.{◌≡◌, ℕ, Bool, true, false, ◌==◌, ◌&&◌, ◌||◌, not, List, [], ◌∷◌, is_some, Option, Some, None, Result, Ok, Err, IfOk, OnErr, refl, sym, ap, ◌∙◌, subst}
use Rattle.std.specs.BTreeMap.{is_at}
use Rattle.touch_laws.proofs.NumberLaws.{eq_same, eq_self, eq_turned}
use Rattle.std.proofs.Math.Bool.{and-true, and-false, or-false}
use Rattle.argo_base.specs.Match.{id_cmp, is_wildcard}
use Rattle.argo_base.specs.Notices.{Notices, doms_of}
use Rattle.argo_base.specs.declared.no_memory.NoMemory.{NoMemory}
use Rattle.argo_base.specs.declared.ring_key.RingId.{RingId}
use Rattle.argo_model.specs.declared.action.Action.TheVariants.{Sweep}
use Rattle.argo_model.specs.declared.action.Outcome.{Outcome}
use Rattle.argo_model.specs.declared.scripts.Actor.TheVariants.{Vcpu}
use Rattle.argo_model.specs.Rules.Act.{act}
use Rattle.argo_model.specs.Rules.Effects.{Effect}
use Rattle.argo_model.specs.Rules.Register.{has_number}
use Rattle.argo_model.specs.Rules.State.{State, Ring}
use Rattle.domain_lists.specs.Lists.{RingLists, names, is_pair}
use Rattle.plain_world.specs.Levels.{Levels, AreLevel, AreSends, AreWaits}
use Rattle.touch_laws.specs.Touches.{is_touched, Touches}
use Rattle.touch_laws.specs.Touches.{Same, Notes}
use Rattle.touch_laws.proofs.LeftLaws.{ended_other, ended_here, noted_stands, noted_apart, noted_here, valid_notice}
use Rattle.plain_world.proofs.LevelLaws.{sends_kept, waits_kept, sends_mended, waits_mended, waits_apart, kept_apart, kept_here, off_apart, off_here, off_single}
use Rattle.touch_laws.proofs.NoticeLaws.{not_waiting}
use Rattle.touch_laws.proofs.TouchLaws.{sweep_touches, sweep_next, sweep_stands}
use Rattle.state_laws.proofs.Courses.{valid_fit}
use Rattle.state_laws.specs.Valid.{IsValid}
use Rattle.domain_lists.proofs.IdLaws.{id_same, id_self}
use Rattle.live_domain.specs.Keyed.{has_notice, noted_on}
use Rattle.domains.specs.ById.{id_in, next_key, ring_ended, notice_ended, ring_at, stands, is_noted}
use Rattle.domains.specs.World.{swept}

-- what holds before and after an act holds whether memory runs out or not
pub either : (P : State → Type 0) (r : Result Outcome NoMemory) (e : Effect) (s t : State) → IfOk r (λ o. e ≡ record { outcome = o; state = t }) → OnErr r (t ≡ s) → P s → P e.state → P t
either P (Ok o) e s t ok err before after = subst P (ap (λ x. x.state) ok) after
either P (Err x) e s t ok err before after = subst P (sym err) before

-- no ring came or went, and no notice
pub level_same : (w : Levels) (t : State) → IsValid t → Same w.state t → AreLevel w → AreLevel (record { state = t; sends = w.sends; waits = w.waits })
level_same w t valid same level = record {
  valid = valid;
  sends = sends_kept w.state t w.sends same.stands level.sends;
  waits = waits_kept w.state t w.waits same.notices level.waits;
}

one_pair : (dom : ℕ) (id : RingId) (d : ℕ) (x : RingId) → is_pair dom id d x ≡ is_touched id (dom ∷ []) x d
one_pair dom id d x = ap (λ b. b && is_at (id_cmp id) x) (eq_turned d dom ∙ sym (or-false (dom == d)))

one_is : (dom d : ℕ) → has_number (dom ∷ []) d ≡ true → dom ≡ d
one_is dom d h = eq_same dom d (sym (or-false (dom == d)) ∙ h)

-- ---- one domain may wait on one ring, or not

pub level_noted : (w : Levels) (t : State) (id : RingId) (dom : ℕ) (mid new : RingLists) (keep : Bool) → IsValid t → Notes w.state t id dom → is_wildcard id.partner ≡ true
    → ((d : ℕ) (x : RingId) → names mid d x ≡ (is_pair dom id d x || names w.waits d x))
    → ((d : ℕ) (x : RingId) → names new d x ≡ (names mid d x && (not (is_pair dom id d x) || keep)))
    → keep ≡ is_noted t id dom → AreLevel w → AreLevel (record { state = t; sends = w.sends; waits = new })
level_noted w t id dom mid new keep valid notes wild added kept keep_is level = record {
  valid = valid;
  sends = sends_kept w.state t w.sends notes.stands level.sends;
  waits = waits_mended w.state t w.waits new id (dom ∷ []) level.waits wild
      (λ d x none. kept_apart w.waits mid new dom id keep added kept d x (one_pair dom id d x ∙ none))
      (λ d h. let same = one_is dom d h in
      ap (λ q. names new q id) (sym same) ∙ kept_here w.waits mid new dom id keep added kept ∙ keep_is ∙ ap (is_noted t id) same)
      notes.notices;
}

pub level_noted_apart : (w : Levels) (t : State) (id : RingId) (dom : ℕ) → IsValid t → Notes w.state t id dom → is_wildcard id.partner ≡ false → AreLevel w
    → AreLevel (record { state = t; sends = w.sends; waits = w.waits })
level_noted_apart w t id dom valid notes single level = record {
  valid = valid;
  sends = sends_kept w.state t w.sends notes.stands level.sends;
  waits = waits_apart w.state t w.waits id level.waits single
      (λ x d apart. notes.notices x d (ap (λ b. has_number (dom ∷ []) d && b) apart ∙ and-false (has_number (dom ∷ []) d)));
}

-- ---- some notices on one ring ended

module _ (w : Levels) (t : State) (id : RingId) (doms : List ℕ) (touches : Touches w.state t id doms) (level : AreLevel w) where
  waits_stay : is_wildcard id.partner ≡ false → AreWaits t w.waits
  waits_stay single = waits_apart w.state t w.waits id level.waits single
      (λ x d apart. touches.notices x d (ap (λ b. has_number doms d && b) apart ∙ and-false (has_number doms d)))

  pub waits_off : (new : RingLists) → ((d : ℕ) (x : RingId) → names new d x ≡ (names w.waits d x && not (has_number doms d && is_at (id_cmp id) x))) → AreWaits t new
  waits_off new off = by (is_wildcard id.partner) refl where
    by : (b : Bool) → is_wildcard id.partner ≡ b → AreWaits t new
    by true wild =
        waits_mended w.state t w.waits new id doms level.waits wild
        (λ d x none. off_apart w.waits new (is_touched id doms x d) d x (off d x) none)
        (λ d h. off_here w.waits new (is_touched id doms id d) d id (off d id) (ap (λ b. b && is_at (id_cmp id) id) h ∙ id_self id) ∙ sym (touches.ended d h))
        touches.notices
    by false single = λ d x. off_single w.state w.waits new id doms level.waits single off d x ∙ waits_stay single d x

  -- a ring may have come
  pub sends_in : (mid new : RingLists) (keep : Bool)
      → ((d : ℕ) (x : RingId) → names mid d x ≡ (is_pair id.partner id d x || names w.sends d x))
      → ((d : ℕ) (x : RingId) → names new d x ≡ (names mid d x && (not (is_pair id.partner id d x) || keep)))
      → keep ≡ stands t id → AreSends t new
  sends_in mid new keep added kept keep_is =
      sends_mended w.state t w.sends new id level.sends
      (λ d x none. kept_apart w.sends mid new id.partner id keep added kept d x none)
      (kept_here w.sends mid new id.partner id keep added kept ∙ keep_is)
      touches.stands

-- ---- a domain swept a ring

-- it is found after the sweep by its key, which it kept, and goes off the lists of those that were signalled
pub level_swept : (w : Levels) (d g serial : ℕ) (doms : List ℕ) (id : RingId) (new : RingLists) → doms ≡ swept w.state d g serial
    → id ≡ id_in d (next_key (act (Vcpu d g) (Sweep serial) w.state).state d serial)
    → ((q : ℕ) (x : RingId) → names new q x ≡ (names w.waits q x && not (has_number doms q && is_at (id_cmp id) x)))
    → AreLevel w → AreLevel (record { state = (act (Vcpu d g) (Sweep serial) w.state).state; sends = w.sends; waits = new })
level_swept w d g serial doms id new signalled found off level =
    let t = (act (Vcpu d g) (Sweep serial) w.state).state in
    let same : id ≡ id_in d (next_key w.state d serial) = found ∙ ap (id_in d) (sweep_next w.state d g serial level.valid) in
    let touches : Touches w.state t id doms =
    subst (λ y. Touches w.state t y doms) (sym same)
    (subst (λ ds. Touches w.state t (id_in d (next_key w.state d serial)) ds) (sym signalled) (sweep_touches w.state d g serial level.valid)) in
    record {
      valid = valid_fit (Vcpu d g) (Sweep serial) w.state refl level.valid;
      sends = sends_kept w.state t w.sends (sweep_stands w.state d g serial) level.sends;
      waits = waits_off w t id doms touches level new off;
    }

-- where none was, the lists stay
pub level_unsignalled : (w : Levels) (d g serial : ℕ) → [] ≡ swept w.state d g serial → AreLevel w
    → AreLevel (record { state = (act (Vcpu d g) (Sweep serial) w.state).state; sends = w.sends; waits = w.waits })
level_unsignalled w d g serial none level =
    level_swept w d g serial [] (id_in d (next_key (act (Vcpu d g) (Sweep serial) w.state).state d serial)) w.waits none refl (λ q x. sym (and-true (names w.waits q x))) level

-- ---- a ring ended

module _ (w : Levels) (id : RingId) (level : AreLevel w) where
  pub sends_without : (new : RingLists) (dom : ℕ) → dom ≡ id.partner → ((d : ℕ) (x : RingId) → names new d x ≡ (names w.sends d x && not (is_pair dom id d x))) → AreSends (ring_ended w.state id) new
  sends_without new dom same off = with_off (subst (λ q. (d : ℕ) (x : RingId) → names new d x ≡ (names w.sends d x && not (is_pair q id d x))) same off) where
    with_off : ((d : ℕ) (x : RingId) → names new d x ≡ (names w.sends d x && not (is_pair id.partner id d x))) → AreSends (ring_ended w.state id) new
    with_off off =
        sends_mended w.state (ring_ended w.state id) w.sends new id level.sends
        (λ d x none. off_apart w.sends new (is_pair id.partner id d x) d x (off d x) none)
        (off_here w.sends new (is_pair id.partner id id.partner id) id.partner id (off id.partner id) (ap (λ b. b && is_at (id_cmp id) id) (eq_self id.partner) ∙ id_self id)
        ∙ sym (ap is_some (ended_here w.state id level.valid)))
        (λ x apart. ap is_some (ended_other w.state id x apart))

  waits_with : is_wildcard id.partner ≡ false → AreWaits (ring_ended w.state id) w.waits
  waits_with single = waits_apart w.state (ring_ended w.state id) w.waits id level.waits single (λ x d apart. ap (λ r. has_notice r d) (ended_other w.state id x apart))

  pub waits_without : (new : RingLists) (ns : Notices) → ns ≡ noted_on (ring_at w.state id)
      → ((d : ℕ) (x : RingId) → names new d x ≡ (names w.waits d x && not (has_number (doms_of ns) d && is_at (id_cmp id) x))) → AreWaits (ring_ended w.state id) new
  waits_without new ns ns_are off = cases (is_wildcard id.partner) refl where
    unnoted : (o : Option Ring) (d : ℕ) → has_number (doms_of (noted_on o)) d ≡ false → has_notice o d ≡ false
    unnoted None d h = refl
    unnoted (Some r) d h = not_waiting r.notices d h

    by : (x : RingId) (d : ℕ) → is_touched id (doms_of ns) x d ≡ false → (b : Bool) → is_at (id_cmp id) x ≡ b → is_noted (ring_ended w.state id) x d ≡ is_noted w.state x d
    by x d none false apart = ap (λ r. has_notice r d) (ended_other w.state id x apart)
    by x d none true hit =
        let same = id_same id x hit in
        let out : has_number (doms_of ns) d ≡ false = sym (and-true (has_number (doms_of ns) d)) ∙ ap (λ b. has_number (doms_of ns) d && b) (sym hit) ∙ none in
        ap (λ y. is_noted (ring_ended w.state id) y d) (sym same) ∙ ap (λ r. has_notice r d) (ended_here w.state id level.valid)
        ∙ sym (unnoted (ring_at w.state id) d (ap (λ l. has_number (doms_of l) d) (sym ns_are) ∙ out)) ∙ ap (λ y. is_noted w.state y d) same

    cases : (b : Bool) → is_wildcard id.partner ≡ b → AreWaits (ring_ended w.state id) new
    cases true wild =
        waits_mended w.state (ring_ended w.state id) w.waits new id (doms_of ns) level.waits wild
        (λ d x none. off_apart w.waits new (is_touched id (doms_of ns) x d) d x (off d x) none)
        (λ d h. off_here w.waits new (is_touched id (doms_of ns) id d) d id (off d id) (ap (λ b. b && is_at (id_cmp id) id) h ∙ id_self id)
        ∙ sym (ap (λ r. has_notice r d) (ended_here w.state id level.valid)))
        (λ x d none. by x d none (is_at (id_cmp id) x) refl)
    cases false single = λ d x. off_single w.state w.waits new id (doms_of ns) level.waits single off d x ∙ waits_with single d x

-- ---- a notice ended

pub level_notice : (w : Levels) (d : ℕ) (id : RingId) (new : RingLists) → AreLevel w → names w.waits d id ≡ true
    → ((q : ℕ) (y : RingId) → names new q y ≡ (names w.waits q y && not (is_pair d id q y))) → AreLevel (record { state = notice_ended w.state id d; sends = w.sends; waits = new })
level_notice w d id new level named off = record {
  valid = valid_notice w.state id d level.valid;
  sends = sends_kept w.state (notice_ended w.state id d) w.sends (noted_stands w.state id d) level.sends;
  waits = waits_mended w.state (notice_ended w.state id d) w.waits new id (d ∷ []) level.waits wild
      (λ q x none. off_apart w.waits new (is_pair d id q x) q x (off q x) (one_pair d id q x ∙ none))
      (λ q h. let same = one_is d q h in
      off_here w.waits new (is_pair d id q id) q id (off q id) (one_pair d id q id ∙ ap (λ b. b && is_at (id_cmp id) id) h ∙ id_self id)
      ∙ sym (ap (is_noted (notice_ended w.state id d) id) (sym same) ∙ noted_here w.state id d level.valid))
      (noted_apart w.state id d);
} where
  first : (a b : Bool) → (a && b) ≡ true → a ≡ true
  first true b h = refl
  first false b h = h

  wild : is_wildcard id.partner ≡ true
  wild = first (is_wildcard id.partner) (is_noted w.state id d) (sym (level.waits d id) ∙ named)

-- ---- a ring that a send list names

module _ (w : Levels) (d : ℕ) (id : RingId) (level : AreLevel w) (named : names w.sends d id ≡ true) where
  first_of : (a b : Bool) → (a && b) ≡ true → a ≡ true
  first_of true b h = refl
  first_of false b h = h

  pub sender_for : (id.partner == d) ≡ true
  sender_for = first_of (id.partner == d) (stands w.state id) (sym (level.sends d id) ∙ named)

  pub sender_is : d ≡ id.partner
  sender_is = sym (eq_same id.partner d sender_for)
