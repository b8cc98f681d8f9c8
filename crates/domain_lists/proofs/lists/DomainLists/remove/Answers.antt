use Rattle.std.proofs.Common.{◌≡◌, ℕ, ◌&&◌, ◌≤◌, not, Some, None, List, [], length, ap, ◌∙◌, sym, subst, unwrap_or}
use Rattle.std.specs.Option.{option_copied_mut}
use Rattle.std.specs.Ordering.{nat_cmp}
use Rattle.std.specs.Map.{lookup}
use Rattle.std.specs.BTreeMap.{BTreeMap, is_at}
use Rattle.argo_base.specs.Match.{id_cmp}
use Rattle.argo_base.specs.RingIds.{has_id}
use Rattle.argo_base.specs.declared.ring_id_set.RingIdSet.{RingIdSet}
use Rattle.argo_base.specs.declared.ring_key.RingId.{RingId}
use Rattle.domain_lists.specs.Lists.{RingLists, ids_of, names, is_pair, AreNoLonger}
use Rattle.domain_lists.proofs.ListLaws.{IsWith, is_set, names_removed, names_absent, no_longer, same_lengths}
use Rattle.domain_lists.proofs.lists.DomainLists.remove.Goals as goal

pub returns-in_default-clause-names : goal.returns-in_default-clause-names
returns-in_default-clause-names c =
    let s : RingLists = c.self.inside.lists.entries in
    let d = c.args.dom in
    let none : lookup (is_at (nat_cmp d)) s ≡ None = sym c.get_mut.ensures.value ∙ ap option_copied_mut c.in_default.is in
    λ q y.
    ap (λ (m : BTreeMap ℕ RingIdSet). names m.entries q y) c.get_mut.follows.holds-at-none
    ∙ names_absent s d c.args.id (ap (λ o. unwrap_or o []) none) q y
    ∙ ap (λ l. names l q y && not (is_pair d c.args.id q y)) c.self.view_is

pub returns-in_default-clause-lengths : goal.returns-in_default-clause-lengths
returns-in_default-clause-lengths c =
    let P : RingLists → Type 0 = λ l. AreNoLonger l c.self.inside.lists.entries in
    let Q : BTreeMap ℕ RingIdSet → Type 0 = λ m. AreNoLonger c.args.self.now m.entries in
    subst Q (sym c.get_mut.follows.holds-at-none) (subst P c.self.view_is (same_lengths c.self.inside.lists.entries))

pub returns-clause-names : goal.returns-clause-names
returns-clause-names c =
    let s : RingLists = c.self.inside.lists.entries in
    let d = c.args.dom in
    let x = c.in-Some.ids.now in
    let new = c.take_out.new.ids in
    let there : lookup (is_at (nat_cmp d)) s ≡ Some x = sym c.get_mut.ensures.value ∙ ap option_copied_mut c.in-Some.is in
    let now : IsWith s d new (c.get_mut.follows.lender new).entries = λ q. ap (λ l. ids_of l q) (c.get_mut.follows.holds new).0 ∙ is_set d new s x there q in
    let old : ids_of s d ≡ x = ap (λ o. unwrap_or o []) there in
    λ q y.
    names_removed s (c.get_mut.follows.lender new).entries d new now c.args.id
    (λ z. c.take_out.ensures.names z ∙ ap (λ l. has_id l z && not (is_at (id_cmp c.args.id) z)) (sym old)) q y
    ∙ ap (λ l. names l q y && not (is_pair d c.args.id q y)) c.self.view_is

pub returns-clause-lengths : goal.returns-clause-lengths
returns-clause-lengths c =
    let s : RingLists = c.self.inside.lists.entries in
    let d = c.args.dom in
    let x = c.in-Some.ids.now in
    let new = c.take_out.new.ids in
    let there : lookup (is_at (nat_cmp d)) s ≡ Some x = sym c.get_mut.ensures.value ∙ ap option_copied_mut c.in-Some.is in
    let now : IsWith s d new (c.get_mut.follows.lender new).entries = λ q. ap (λ l. ids_of l q) (c.get_mut.follows.holds new).0 ∙ is_set d new s x there q in
    let old : ids_of s d ≡ x = ap (λ o. unwrap_or o []) there in
    let P : RingLists → Type 0 = λ l. AreNoLonger l (c.get_mut.follows.lender new).entries in
    subst P c.self.view_is
    (no_longer s (c.get_mut.follows.lender new).entries d new now (subst (λ (l : List RingId). length new ≤ length l) (sym old) c.take_out.ensures.length))
