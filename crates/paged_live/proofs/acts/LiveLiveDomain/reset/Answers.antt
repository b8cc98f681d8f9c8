use Rattle.std.proofs.Common.{◌≡◌, length, sym, ap, ◌∙◌, arith}
use Rattle.argo_model.specs.Rules.Destroy.{reset_live}
use Rattle.argo_model.specs.Rules.Register.{without_ring}
use Rattle.argo_model.specs.Rules.State.{Live}
use Rattle.paged_live.proofs.EndLaws.{less_first, all_ended}
use Rattle.paged_live.proofs.acts.LiveLiveDomain.reset.Goals as goal

pub rings-smaller : goal.rings-smaller
rings-smaller c =
    let live = c.rings.self in
    let less = less_first live c.in-Some.key (sym c.lowest_key.ensures ∙ c.in-Some.is) in
    let same : length c.take_ring.new.self.rings ≡ length (without_ring live c.in-Some.key).rings = ap (λ (l : Live). length l.rings) c.take_ring.ensures.left in
    omega (arith, less, same)

pub returns : goal.returns
returns c =
    all_ended c.rings.self c.rings.invariant.0 (sym c.lowest_key.ensures ∙ c.in_default.is)
    ∙ c.rings.invariant.1
    ∙ ap reset_live c.self.view_is
