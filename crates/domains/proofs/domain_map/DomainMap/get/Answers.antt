use Rattle.std.proofs.Common.{◌≡◌, Some, None, sym, ap, ◌∙◌}
use Rattle.std.specs.Ordering.{nat_cmp}
use Rattle.std.specs.Map.{lookup}
use Rattle.std.specs.BTreeMap.{is_at}
use Rattle.domains.specs.Place.{place_of}
use Rattle.domains.proofs.PlaceLaws.{lookup-found, lookup-absent}
use Rattle.domains.proofs.domain_map.DomainMap.get.Goals as goal

pub returns-in_default : goal.returns-in_default
returns-in_default g c =
    let none : None ≡ place_of c.args.self.now c.args.dom = c.in_default.ensures.is in
    record { value = sym (lookup-absent c.args.self.now c.args.dom (sym none)) }

pub returns : goal.returns
returns g c =
    let s = c.self.inside.rows.items in
    let at : Some c.in-Some.place ≡ place_of s c.args.dom = c.in-Some.ensures.is ∙ ap (λ rows. place_of rows c.args.dom) (sym c.self.view_is) in
    let found = lookup-found s c.args.dom c.in-Some.place c.index.result.now (sym at) in
    record { value = ap (λ e. Some e.1) c.index.ensures ∙ sym found ∙ ap (lookup (is_at (nat_cmp c.args.dom))) c.self.view_is }
