use Rattle.std.proofs.Common.{◌≡◌, Some, None, slice_set, sym, ap, ◌∙◌, inr}
use Rattle.std.specs.Ordering.{nat_cmp}
use Rattle.std.specs.Map.{lookup, set_value}
use Rattle.std.specs.BTreeMap.{is_at}
use Rattle.domains.specs.Place.{place_of}
use Rattle.domains.proofs.PlaceLaws.{lookup-found, lookup-absent, set-found, lends_as}
use Rattle.domains.proofs.domain_map.DomainMap.get_mut.Goals as goal

pub returns-in_default : goal.returns-in_default
returns-in_default g c =
    let s = c.self.inside.rows.items in
    let d = c.args.dom in
    let none : None ≡ place_of s d = c.in_default.ensures.is in (
      ap inr c.self.view_is,
      record {
        writes_back = tt;
        value = sym (lookup-absent s d (sym none)) ∙ ap (lookup (is_at (nat_cmp d))) c.self.view_is;
      },
    )

pub returns : goal.returns
returns g c =
    let s = c.self.inside.rows.items in
    let d = c.args.dom in
    let i = c.in-Some.place in
    let e = c.index_mut-row.result.now in
    let at : Some i ≡ place_of s d = c.in-Some.ensures.is in (
      lends_as (λ w. ap (λ x. slice_set s i (x.0, w)) c.index_mut-row.ensures.value ∙ set-found s d i e w (sym at) ∙ ap (λ rows. set_value (is_at (nat_cmp d)) rows w) c.self.view_is),
      record {
        writes_back = tt;
        value = ap (λ x. Some x.1) c.index_mut-row.ensures.value ∙ sym (lookup-found s d i e (sym at)) ∙ ap (lookup (is_at (nat_cmp d))) c.self.view_is;
      },
    )
