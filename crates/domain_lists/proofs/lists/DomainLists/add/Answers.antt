use Rattle.std.proofs.Common.{◌≡◌, ℕ, ◌||◌, Some, None, List, [], ap, ◌∙◌, sym, unwrap_or}
use Rattle.std.specs.Option.{option_copied_mut}
use Rattle.std.specs.Ordering.{nat_cmp}
use Rattle.std.specs.Map.{lookup, set_value}
use Rattle.std.specs.BTreeMap.{BTreeMap, is_at, insert_entry}
use Rattle.std.specs.BTreeSet.{insert_key}
use Rattle.std.proofs.lemmas.Map.Steps.{set_value_same}
use Rattle.argo_base.specs.Match.{id_cmp}
use Rattle.argo_base.specs.RingIds.{has_id}
use Rattle.argo_base.specs.declared.ring_id_set.RingIdSet.{RingIdSet}
use Rattle.argo_base.specs.declared.ring_key.RingId.{RingId}
use Rattle.domain_lists.specs.Lists.{RingLists, ids_of, names, is_pair}
use Rattle.domain_lists.proofs.IdLaws.{has_added}
use Rattle.domain_lists.proofs.ListLaws.{IsWith, is_set, is_put, names_added, in_any_case}
use Rattle.domain_lists.proofs.lists.DomainLists.add.Goals as goal

pub returns-in_err-add-clause-err : goal.returns-in_err-add-clause-err
returns-in_err-add-clause-err c =
    let s : RingLists = c.self.inside.lists.entries in
    let d = c.args.dom in
    let x = c.in-Some.ids.now in
    let there : lookup (is_at (nat_cmp d)) s ≡ Some x = sym c.get_mut.ensures.value ∙ ap option_copied_mut c.in-Some.is in
    in_any_case c.from_residual.result
    ((c.get_mut.follows.holds c.add.new.self).0 ∙ ap (set_value (is_at (nat_cmp d)) s) c.in_err-add.ensures.err ∙ set_value_same (is_at (nat_cmp d)) s x there ∙ c.self.view_is)

pub returns-in-Some-clause-ok : goal.returns-in-Some-clause-ok
returns-in-Some-clause-ok c =
    let s : RingLists = c.self.inside.lists.entries in
    let d = c.args.dom in
    let x = c.in-Some.ids.now in
    let new = c.add.new.self in
    let there : lookup (is_at (nat_cmp d)) s ≡ Some x = sym c.get_mut.ensures.value ∙ ap option_copied_mut c.in-Some.is in
    let now : IsWith s d new (c.get_mut.follows.lender new).entries = λ q. ap (λ l. ids_of l q) (c.get_mut.follows.holds new).0 ∙ is_set d new s x there q in
    let old : ids_of s d ≡ x = ap (λ o. unwrap_or o []) there in
    λ q y.
    names_added s (c.get_mut.follows.lender new).entries d new now c.args.id
    (λ z. ap (λ (l : List RingId). has_id l z) c.in_ok-add.ensures.ok ∙ has_added x c.args.id z ∙ ap (λ l. is_at (id_cmp c.args.id) z || has_id l z) (sym old)) q y
    ∙ ap (λ l. is_pair d c.args.id q y || names l q y) c.self.view_is

pub returns-clause-ok : goal.returns-clause-ok
returns-clause-ok c =
    let s : RingLists = c.self.inside.lists.entries in
    let d = c.args.dom in
    let new = c.add-2.new.self in
    let none : lookup (is_at (nat_cmp d)) s ≡ None = sym c.get_mut.ensures.value ∙ ap option_copied_mut c.in_default.is in
    let now : IsWith s d new c.insert.new.self.entries = λ q. ap (λ l. ids_of l q) (c.in_ok-insert.ensures.entries ∙ ap (λ (m : BTreeMap ℕ RingIdSet). insert_entry nat_cmp m.entries d new) c.get_mut.follows.holds-at-none) ∙ is_put d new s q in
    let old : ids_of s d ≡ [] = ap (λ o. unwrap_or o []) none in
    λ q y.
    names_added s c.insert.new.self.entries d new now c.args.id
    (λ z. ap (λ (l : List RingId). has_id l z) (c.in_ok-add-2.ensures.ok ∙ ap (λ l. insert_key id_cmp l c.args.id) c.new-ids.ensures) ∙ has_added [] c.args.id z ∙ ap (λ l. is_at (id_cmp c.args.id) z || has_id l z) (sym old)) q y
    ∙ ap (λ l. is_pair d c.args.id q y || names l q y) c.self.view_is
