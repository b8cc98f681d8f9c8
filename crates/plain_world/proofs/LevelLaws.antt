-- Laws of the lists: they are exact after an act, where they are mended for what it touched.
use Rattle.std.proofs.Common.{◌≡◌, ℕ, Bool, true, false, ◌==◌, ◌&&◌, ◌||◌, not, List, refl, sym, ap, ◌∙◌}
use Rattle.std.specs.BTreeMap.{is_at}
use Rattle.touch_laws.proofs.NumberLaws.{eq_same, eq_self, eq_turned}
use Rattle.std.proofs.Math.Bool.{and-true, and-false}
use Rattle.argo_base.specs.Match.{id_cmp, is_wildcard}
use Rattle.argo_base.specs.declared.ring_key.RingId.{RingId}
use Rattle.argo_model.specs.Rules.Register.{has_number}
use Rattle.argo_model.specs.Rules.State.{State}
use Rattle.domain_lists.specs.Lists.{RingLists, names, is_pair}
use Rattle.domain_lists.proofs.IdLaws.{id_same, id_self}
use Rattle.plain_world.specs.Levels.{is_for, waits_on, AreSends, AreWaits}
use Rattle.touch_laws.specs.Touches.{is_touched}
use Rattle.domains.specs.ById.{stands, is_noted}

-- ---- where nothing comes or goes

pub sends_kept : (s t : State) (sends : RingLists) → ((x : RingId) → stands t x ≡ stands s x) → AreSends s sends → AreSends t sends
sends_kept s t sends same h d x = h d x ∙ ap (λ b. (x.partner == d) && b) (sym (same x))

pub waits_kept : (s t : State) (waits : RingLists) → ((x : RingId) (d : ℕ) → is_noted t x d ≡ is_noted s x d) → AreWaits s waits → AreWaits t waits
waits_kept s t waits same h d x = h d x ∙ ap (λ b. is_wildcard x.partner && b) (sym (same x d))

-- ---- send lists

-- one ring may have come or gone: its partner's list names it if it stands
pub sends_mended : (s t : State) (old new : RingLists) (id : RingId)
    → AreSends s old
    → ((d : ℕ) (x : RingId) → is_pair id.partner id d x ≡ false → names new d x ≡ names old d x)
    → names new id.partner id ≡ stands t id
    → ((x : RingId) → is_at (id_cmp id) x ≡ false → stands t x ≡ stands s x)
    → AreSends t new
sends_mended s t old new id exact apart here others d x = by (is_at (id_cmp id) x) (d == id.partner) refl refl where
  by : (hit own : Bool) → is_at (id_cmp id) x ≡ hit → (d == id.partner) ≡ own → names new d x ≡ is_for t d x
  by true true hit own =
      let same = id_same id x hit in
      let at : d ≡ id.partner = eq_same d id.partner own in
      ap (λ q. names new q x) at ∙ ap (λ y. names new id.partner y) (sym same) ∙ here
      ∙ ap (stands t) same
      ∙ ap (λ b. b && stands t x) (sym (ap (λ (y : RingId). y.partner == d) (sym same) ∙ eq_turned id.partner d ∙ own))
  by true false hit own =
      let same = id_same id x hit in
      let pair : is_pair id.partner id d x ≡ false = ap (λ b. b && is_at (id_cmp id) x) own in
      let other : (x.partner == d) ≡ false = ap (λ (y : RingId). y.partner == d) (sym same) ∙ eq_turned id.partner d ∙ own in
      apart d x pair ∙ exact d x ∙ ap (λ b. b && stands s x) other ∙ ap (λ b. b && stands t x) (sym other)
  by false own hit is =
      apart d x (ap (λ b. (d == id.partner) && b) hit ∙ and-false (d == id.partner)) ∙ exact d x
      ∙ ap (λ b. (x.partner == d) && b) (sym (others x hit))

-- ---- wildcard lists

-- notices of some domains on one wildcard ring may have come or gone: the list of each names the ring if it waits there
pub waits_mended : (s t : State) (old new : RingLists) (id : RingId) (doms : List ℕ)
    → AreWaits s old → is_wildcard id.partner ≡ true
    → ((d : ℕ) (x : RingId) → is_touched id doms x d ≡ false → names new d x ≡ names old d x)
    → ((d : ℕ) → has_number doms d ≡ true → names new d id ≡ is_noted t id d)
    → ((x : RingId) (d : ℕ) → is_touched id doms x d ≡ false → is_noted t x d ≡ is_noted s x d)
    → AreWaits t new
waits_mended s t old new id doms exact wild apart here others d x = by (is_at (id_cmp id) x) (has_number doms d) refl refl where
  rest : is_touched id doms x d ≡ false → names new d x ≡ waits_on t d x
  rest none = apart d x none ∙ exact d x ∙ ap (λ b. is_wildcard x.partner && b) (sym (others x d none))

  by : (hit own : Bool) → is_at (id_cmp id) x ≡ hit → has_number doms d ≡ own → names new d x ≡ waits_on t d x
  by true true hit own =
      let same = id_same id x hit in
      ap (λ y. names new d y) (sym same) ∙ here d own ∙ ap (λ y. is_noted t y d) same
      ∙ ap (λ b. b && is_noted t x d) (sym (ap (λ (y : RingId). is_wildcard y.partner) (sym same) ∙ wild))
  by true false hit own = rest (ap (λ b. b && is_at (id_cmp id) x) own)
  by false own hit is = rest (ap (λ b. has_number doms d && b) hit ∙ and-false (has_number doms d))

-- ---- lists that were mended

-- one ring was added to a list, or was there, and is kept if it should be
pub kept_apart : (old mid new : RingLists) (dom : ℕ) (id : RingId) (keep : Bool)
    → ((d : ℕ) (x : RingId) → names mid d x ≡ (is_pair dom id d x || names old d x))
    → ((d : ℕ) (x : RingId) → names new d x ≡ (names mid d x && (not (is_pair dom id d x) || keep)))
    → (d : ℕ) (x : RingId) → is_pair dom id d x ≡ false → names new d x ≡ names old d x
kept_apart old mid new dom id keep added kept d x none =
    kept d x ∙ ap (λ b. names mid d x && (not b || keep)) none ∙ and-true (names mid d x) ∙ added d x ∙ ap (λ b. b || names old d x) none

self_pair : (dom : ℕ) (id : RingId) → is_pair dom id dom id ≡ true
self_pair dom id = ap (λ b. b && is_at (id_cmp id) id) (eq_self dom) ∙ id_self id

pub kept_here : (old mid new : RingLists) (dom : ℕ) (id : RingId) (keep : Bool)
    → ((d : ℕ) (x : RingId) → names mid d x ≡ (is_pair dom id d x || names old d x))
    → ((d : ℕ) (x : RingId) → names new d x ≡ (names mid d x && (not (is_pair dom id d x) || keep)))
    → names new dom id ≡ keep
kept_here old mid new dom id keep added kept =
    let pair = self_pair dom id in
    kept dom id ∙ ap (λ b. names mid dom id && (not b || keep)) pair ∙ ap (λ b. b && keep) (added dom id ∙ ap (λ b. b || names old dom id) pair)

-- rings that were taken off lists
pub off_apart : (old new : RingLists) (gone : Bool) (d : ℕ) (x : RingId) → names new d x ≡ (names old d x && not gone) → gone ≡ false → names new d x ≡ names old d x
off_apart old new gone d x is none = is ∙ ap (λ b. names old d x && not b) none ∙ and-true (names old d x)

pub off_here : (old new : RingLists) (gone : Bool) (d : ℕ) (x : RingId) → names new d x ≡ (names old d x && not gone) → gone ≡ true → names new d x ≡ false
off_here old new gone d x is hit = is ∙ ap (λ b. names old d x && not b) hit ∙ and-false (names old d x)

-- what goes on at a ring that is for one domain changes no wildcard list
pub waits_apart : (s t : State) (waits : RingLists) (id : RingId) → AreWaits s waits → is_wildcard id.partner ≡ false
    → ((x : RingId) (d : ℕ) → is_at (id_cmp id) x ≡ false → is_noted t x d ≡ is_noted s x d) → AreWaits t waits
waits_apart s t waits id exact single others d x = by (is_at (id_cmp id) x) refl where
  by : (hit : Bool) → is_at (id_cmp id) x ≡ hit → names waits d x ≡ waits_on t d x
  by true hit =
      let wild : is_wildcard x.partner ≡ false = ap (λ (y : RingId). is_wildcard y.partner) (sym (id_same id x hit)) ∙ single in
      exact d x ∙ ap (λ b. b && is_noted s x d) wild ∙ ap (λ b. b && is_noted t x d) (sym wild)
  by false hit = exact d x ∙ ap (λ b. is_wildcard x.partner && b) (sym (others x d hit))

-- a ring that is for one domain is on no wildcard list, and goes off none
pub off_single : (s : State) (old new : RingLists) (id : RingId) (doms : List ℕ) → AreWaits s old → is_wildcard id.partner ≡ false
    → ((d : ℕ) (x : RingId) → names new d x ≡ (names old d x && not (has_number doms d && is_at (id_cmp id) x))) → (d : ℕ) (x : RingId) → names new d x ≡ names old d x
off_single s old new id doms exact single off d x = by (is_at (id_cmp id) x) refl where
  by : (hit : Bool) → is_at (id_cmp id) x ≡ hit → names new d x ≡ names old d x
  by true hit =
      let none : names old d x ≡ false = exact d x ∙ ap (λ b. b && is_noted s x d) (ap (λ (y : RingId). is_wildcard y.partner) (sym (id_same id x hit)) ∙ single) in
      off d x ∙ ap (λ b. b && not (has_number doms d && is_at (id_cmp id) x)) none ∙ sym none
  by false apart = off_apart old new (has_number doms d && is_at (id_cmp id) x) d x (off d x) (ap (λ b. has_number doms d && b) apart ∙ and-false (has_number doms d))
