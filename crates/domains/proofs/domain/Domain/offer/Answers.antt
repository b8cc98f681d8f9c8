use Rattle.std.proofs.Common.{◌≡◌, Some, option_map, true, not, sym, ap, ◌∙◌}
use Rattle.argo_base.specs.declared.errno.Errno.TheVariants.{ConnRefused}
use Rattle.argo_model.specs.Rules.State.{Domain, Live}
use Rattle.argo_model.specs.Rules.Deliver.{offer_to_live, offer_to_life, offer_to_domain}
use Rattle.argo_model.specs.Rules.Effects.{refuse_if}
use Rattle.domains.specs.Domain.{with_left}
use Rattle.domains.proofs.WorldLaws.{life_after}
use Rattle.domains.proofs.domain.Domain.offer.Goals as goal

pub returns-clause-left : goal.returns-clause-left
returns-clause-left g c =
    let i = c.self.inside in
    let x : Domain = record { on = i.on; pages = i.pages; generation = i.generation; life = option_map g.L.LiveDomain.live i.life } in
    let to = c.args.to in
    let port = c.args.to_port in
    let o = c.args.sent.now in
    let live = g.L.LiveDomain.live c.in-Some.live in
    let lives : x.life ≡ Some live = ap (option_map g.L.LiveDomain.live) c.in-Some.is in
    let on : x.on ≡ true = c.if-not-self.false in
    ap (λ (l : Live). record x { life = Some l }) c.in_ok-outcome.ensures.left
    ∙ life_after x live (offer_to_live to port o live) lives
    ∙ ap (λ l. with_left x (offer_to_life to port o l).left) (sym lives)
    ∙ ap (λ b. with_left x (refuse_if (not b) ConnRefused (offer_to_life to port o x.life)).left) (sym on)
    ∙ ap (λ (y : Domain). with_left y (offer_to_domain to port o (Some y)).left) c.self.view_is
