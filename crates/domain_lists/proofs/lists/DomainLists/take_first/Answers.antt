use Rattle.std.proofs.Common.{◌≡◌, ℕ, ◌+◌, ◌&&◌, ◌≤◌, not, true, Some, None, IfSome, IfNone, Option, List, [], ◌∷◌, length, ap, ◌∙◌, sym, subst, unwrap_or, arith}
use Rattle.std.specs.Option.{option_copied_mut}
use Rattle.std.specs.Ordering.{nat_cmp}
use Rattle.std.specs.List.{All}
use Rattle.std.specs.Map.{lookup, set_value}
use Rattle.std.specs.BTreeMap.{is_at}
use Rattle.std.specs.BTreeMap.Range.{IsLtBy}
use Rattle.std.proofs.lemmas.Map.Steps.{set_value_same}
use Rattle.argo_base.specs.Match.{id_cmp}
use Rattle.argo_base.specs.RingIds.{has_id}
use Rattle.argo_base.specs.declared.ring_key.RingId.{RingId}
use Rattle.domain_lists.specs.Lists.{RingLists, ids_of, names, is_pair, AreNoLonger}
use Rattle.domain_lists.proofs.IdLaws.{has_first, has_drained, least_apart}
use Rattle.domain_lists.proofs.ListLaws.{IsWith, is_set, names_removed, no_longer, here_is}
use Rattle.domain_lists.proofs.lists.DomainLists.take_first.Goals as goal

taken_of : (r : Option RingId) (old new : List RingId) → IfSome r (λ id. old ≡ id ∷ new) → IfSome r (λ id. has_id old id ≡ true)
taken_of None old new h = tt
taken_of (Some id) old new h = ap (λ (l : List RingId). has_id l id) h ∙ has_first new id

names_of : (r : Option RingId) (s l : RingLists) (d : ℕ) (old new : List RingId) → ids_of s d ≡ old → IsWith s d new l → IfSome r (λ id. old ≡ id ∷ new) → IfSome r (λ id. All (IsLtBy id_cmp id) new)
    → IfSome r (λ id. (q : ℕ) (y : RingId) → names l q y ≡ (names s q y && not (is_pair d id q y)))
names_of None s l d old new is now h least = tt
names_of (Some id) s l d old new is now h least =
    names_removed s l d new now id
    (λ z. has_drained new id z (least_apart new id least) ∙ ap (λ (k : List RingId). has_id k z && not (is_at (id_cmp id) z)) (sym (is ∙ h)))

shorter : (r : Option RingId) (old new : List RingId) → IfSome r (λ id. old ≡ id ∷ new) → IfNone r (new ≡ old) → length new ≤ length old
shorter None old new h same = subst (λ (l : List RingId). length l ≤ length old) (sym same) (omega arith)
shorter (Some id) old new h same = subst (λ (l : List RingId). length new ≤ length l) (sym h) (omega arith)

one_of : (r : Option RingId) (s l : RingLists) (d : ℕ) (old new : List RingId) → ids_of s d ≡ old → IsWith s d new l → IfSome r (λ id. old ≡ id ∷ new)
    → IfSome r (λ id. length (ids_of l d) + 1 ≡ length (ids_of s d))
one_of None s l d old new is now h = tt
one_of (Some id) s l d old new is now h =
    let a : length (ids_of l d) ≡ length new = ap length (here_is s l d new now) in
    let b : length (ids_of s d) ≡ length (id ∷ new) = ap length (is ∙ h) in
    omega arith

kept_of : (r : Option RingId) (P Q : Type 0) → (P → Q) → IfNone r P → IfNone r Q
kept_of None P Q f h = f h
kept_of (Some id) P Q f h = tt

pub returns-clause-taken : goal.returns-clause-taken
returns-clause-taken c =
    let s : RingLists = c.self.inside.lists.entries in
    let d = c.args.dom in
    let x = c.in_ok-ids.ids.now in
    let there : lookup (is_at (nat_cmp d)) s ≡ Some x = sym c.get_mut.ensures.value ∙ ap option_copied_mut c.in_ok-ids.was in
    let old : x ≡ ids_of c.args.self.now d = sym (ap (λ o. unwrap_or o []) there) ∙ ap (λ (l : RingLists). ids_of l d) c.self.view_is in
    let P : List RingId → Type 0 = λ l. IfSome c.drain_one.result (λ id. has_id l id ≡ true) in
    subst P old (taken_of c.drain_one.result x c.drain_one.new.self c.drain_one.ensures.taken)

pub returns-clause-names : goal.returns-clause-names
returns-clause-names c =
    let s : RingLists = c.self.inside.lists.entries in
    let d = c.args.dom in
    let x = c.in_ok-ids.ids.now in
    let new = c.drain_one.new.self in
    let there : lookup (is_at (nat_cmp d)) s ≡ Some x = sym c.get_mut.ensures.value ∙ ap option_copied_mut c.in_ok-ids.was in
    let now : IsWith s d new (c.get_mut.follows.lender new).entries = λ q. ap (λ l. ids_of l q) (c.get_mut.follows.holds new).0 ∙ is_set d new s x there q in
    let P : RingLists → Type 0 = λ l. IfSome c.drain_one.result (λ id. (q : ℕ) (y : RingId) → names (c.get_mut.follows.lender new).entries q y ≡ (names l q y && not (is_pair d id q y))) in
    subst P c.self.view_is
    (names_of c.drain_one.result s (c.get_mut.follows.lender new).entries d x new (ap (λ o. unwrap_or o []) there) now c.drain_one.ensures.taken c.drain_one.ensures.least)

pub returns-clause-lengths : goal.returns-clause-lengths
returns-clause-lengths c =
    let s : RingLists = c.self.inside.lists.entries in
    let d = c.args.dom in
    let x = c.in_ok-ids.ids.now in
    let new = c.drain_one.new.self in
    let there : lookup (is_at (nat_cmp d)) s ≡ Some x = sym c.get_mut.ensures.value ∙ ap option_copied_mut c.in_ok-ids.was in
    let now : IsWith s d new (c.get_mut.follows.lender new).entries = λ q. ap (λ l. ids_of l q) (c.get_mut.follows.holds new).0 ∙ is_set d new s x there q in
    let old : ids_of s d ≡ x = ap (λ o. unwrap_or o []) there in
    let P : RingLists → Type 0 = λ l. AreNoLonger l (c.get_mut.follows.lender new).entries in
    subst P c.self.view_is
    (no_longer s (c.get_mut.follows.lender new).entries d new now
    (subst (λ (l : List RingId). length new ≤ length l) (sym old) (shorter c.drain_one.result x new c.drain_one.ensures.taken c.drain_one.ensures.kept)))

pub returns-clause-one : goal.returns-clause-one
returns-clause-one c =
    let s : RingLists = c.self.inside.lists.entries in
    let d = c.args.dom in
    let x = c.in_ok-ids.ids.now in
    let new = c.drain_one.new.self in
    let there : lookup (is_at (nat_cmp d)) s ≡ Some x = sym c.get_mut.ensures.value ∙ ap option_copied_mut c.in_ok-ids.was in
    let now : IsWith s d new (c.get_mut.follows.lender new).entries = λ q. ap (λ l. ids_of l q) (c.get_mut.follows.holds new).0 ∙ is_set d new s x there q in
    let P : RingLists → Type 0 = λ l. IfSome c.drain_one.result (λ id. length (ids_of (c.get_mut.follows.lender new).entries d) + 1 ≡ length (ids_of l d)) in
    subst P c.self.view_is
    (one_of c.drain_one.result s (c.get_mut.follows.lender new).entries d x new (ap (λ o. unwrap_or o []) there) now c.drain_one.ensures.taken)

pub returns-clause-kept : goal.returns-clause-kept
returns-clause-kept c =
    let s : RingLists = c.self.inside.lists.entries in
    let d = c.args.dom in
    let x = c.in_ok-ids.ids.now in
    let new = c.drain_one.new.self in
    let there : lookup (is_at (nat_cmp d)) s ≡ Some x = sym c.get_mut.ensures.value ∙ ap option_copied_mut c.in_ok-ids.was in
    kept_of c.drain_one.result (new ≡ x) ((c.get_mut.follows.lender new).entries ≡ c.args.self.now)
    (λ same. (c.get_mut.follows.holds new).0 ∙ ap (set_value (is_at (nat_cmp d)) s) same ∙ set_value_same (is_at (nat_cmp d)) s x there ∙ c.self.view_is)
    c.drain_one.ensures.kept
