use Rattle.std.proofs.Common.{◌≡◌, ◌/◌, ◌∙◌, IsTrue, length, ap, sym, subst, map, not, ◌==◌, rules}
use Rattle.std.proofs.lemmas.Map.Made.{filter_same_pairs, map_same_pairs}
use Rattle.argo_model.specs.Rules.State.{Live}
use Rattle.argo_model.specs.Rules.Destroy.{ring_without, rings_without, live_without}
use Rattle.flat_live.specs.Memory.{stand_in}
use Rattle.flat_live.proofs.LiveLaws.{forget_stands}
use Rattle.flat_live.proofs.live.LiveLiveDomain.forget.Goals as goal

pub invariant_of-self : goal.invariant_of-self
invariant_of-self c =
    let rings = c.self.inside.rings.entries in
    let is : c.retain-2.new.self.entries ≡ rings_without c.args.dom rings =
    map_same_pairs _ (ring_without c.args.dom) _ (λ k v b w f t. search rules) _ _ c.retain-2.ensures.filtered
    ∙ ap (λ rings. map (λ e. (e.0, ring_without c.args.dom e.1)) rings)
    (filter_same_pairs _ (λ e. not (e.0.partner == c.args.dom)) _ (λ k v b w f t. search rules) _ _ c.retain.ensures.filtered) in
    subst (λ rs. IsTrue (stand_in (length c.self.inside.bytes / 4096) rs)) (sym is) (forget_stands (length c.self.inside.bytes / 4096) c.args.dom rings c.self.invariant)

pub returns : goal.returns
returns c =
    let i = c.self.inside in
    let x : Live = record { bytes = i.bytes; flag = i.flag; next_serial = i.next_serial; rings = i.rings.entries } in
    let is : c.retain-2.new.self.entries ≡ rings_without c.args.dom x.rings =
    map_same_pairs _ (ring_without c.args.dom) _ (λ k v b w f t. search rules) _ _ c.retain-2.ensures.filtered
    ∙ ap (λ rings. map (λ e. (e.0, ring_without c.args.dom e.1)) rings)
    (filter_same_pairs _ (λ e. not (e.0.partner == c.args.dom)) _ (λ k v b w f t. search rules) _ _ c.retain.ensures.filtered) in
    ap (λ rs. record x { rings = rs }) is ∙ ap (live_without c.args.dom) c.self.view_is
