use Rattle.std.proofs.Common.{◌≡◌, ◌-◌, true, length, sym, ap, ◌∙◌, subst}
use Rattle.argo_model.specs.Rules.Destroy.{forget}
use Rattle.argo_model.specs.Rules.State.{State}
use Rattle.touch_laws.specs.Ends.{EndSame}
use Rattle.plain_world.specs.Levels.{Levels}
use Rattle.touch_laws.proofs.EndLaws.{own_ended}
use Rattle.touch_laws.proofs.LeftLaws.{one_fewer}
use Rattle.state_laws.specs.Valid.{IsValid}
use Rattle.plain_world.proofs.listed_domains.ListedDomains.end_first_ring.Goals as goal
use Rattle.domains.specs.ById.{ring_ended, rings_of, stands}

pub returns-clause-same : goal.returns-clause-same
returns-clause-same g c =
    let s = c.args.self.now.state in
    let d = c.args.dom in
    let Q : State → Type 0 = λ t. EndSame d (forget s d) (forget t d) in
    subst Q (sym c.end_ring.ensures.state) (own_ended s c.in-Some.id d c.in-Some.ensures.owner)

pub returns-clause-count : goal.returns-clause-count
returns-clause-count g c =
    let s = c.args.self.now.state in
    let d = c.args.dom in
    let id = c.in-Some.id in
    let e : c.self.inside.domains ≡ s = ap (λ (w : Levels). w.state) c.self.view_is in
    let there : stands s id ≡ true = ap (λ t. stands t id) (sym e) ∙ c.in-Some.ensures.there in
    ap (λ t. length (rings_of t d)) c.end_ring.ensures.state
    ∙ subst (λ o. length (rings_of (ring_ended s id) o) ≡ length (rings_of s o) - 1) c.in-Some.ensures.owner (one_fewer s id (subst IsValid e c.self.invariant.valid) there)
