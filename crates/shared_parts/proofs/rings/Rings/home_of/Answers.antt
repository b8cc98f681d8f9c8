use Rattle.std.proofs.Common.{option_map, ap, ◌∙◌}
use Rattle.shared_parts.specs.Homes.{home_at}
use Rattle.shared_parts.specs.Rings.{Registry}
use Rattle.shared_parts.proofs.HomeLaws.{place_none, place_lost, place_found}
use Rattle.shared_parts.proofs.rings.Rings.home_of.Goals as goal

pub returns-in_err-home : goal.returns-in_err-home
returns-in_err-home c =
    let same = c.as_slice.ensures.value ∙ ap (λ (r : Registry). r.homes) c.self.view_is in
    ap (option_map (λ home. home.1)) c.from_residual.ensures
    ∙ place_none c.args.self.now c.args.page (c.in_err-home.ensures ∙ ap (λ hs. home_at hs c.args.page) same)

pub returns-in_err-gate : goal.returns-in_err-gate
returns-in_err-gate c =
    let same = c.as_slice.ensures.value ∙ ap (λ (r : Registry). r.homes) c.self.view_is in
    ap (option_map (λ home. home.1)) c.from_residual-in_err-gate.ensures
    ∙ place_lost c.args.self.now c.args.page c.in_ok-home.home (c.in_ok-home.ensures ∙ ap (λ hs. home_at hs c.args.page) same) c.in_err-gate.ensures

pub returns : goal.returns
returns c =
    let same = c.as_slice.ensures.value ∙ ap (λ (r : Registry). r.homes) c.self.view_is in
    place_found c.args.self.now c.args.page c.in_ok-home.home (c.in_ok-home.ensures ∙ ap (λ hs. home_at hs c.args.page) same) c.in_ok-gate.ensures
