use Rattle.std.proofs.Common.{◌≡◌, sym, ap, ◌∙◌, subst}
use Rattle.argo_model.specs.declared.action.Action.TheVariants.{Deliver}
use Rattle.argo_model.specs.declared.scripts.Actor.TheVariants.{Vcpu}
use Rattle.argo_model.specs.Rules.Act.{act}
use Rattle.argo_model.specs.Rules.Deliver.{Offer}
use Rattle.argo_model.specs.Rules.State.{State}
use Rattle.plain_world.specs.Levels.{Levels, AreLevel}
use Rattle.touch_laws.specs.Touches.{Notes}
use Rattle.touch_laws.proofs.ActLaws.{notes_self, deliver_notes}
use Rattle.plain_world.proofs.LevelActs.{either, level_noted, level_noted_apart}
use Rattle.state_laws.proofs.Courses.{valid_fit}
use Rattle.plain_world.proofs.listed_domains.ListedDomainsDomainActs.deliver.Goals as goal
use Rattle.domains.specs.ById.{is_noted, met_id}

pub invariant_of-self-then-not-is_any : goal.invariant_of-self-then-not-is_any
invariant_of-self-then-not-is_any g c =
    let i = c.self.inside in
    let w : Levels = record { state = i.domains; sends = i.sends; waits = i.waits } in
    let o = c.args.sent.now in
    let d = o.sender in
    let g = c.args.generation in
    let a = Deliver o.port c.args.to c.args.to_port o.kind o.load in
    let id = c.met-id.result in
    let t = (act (Vcpu d g) a i.domains).state in
    let q = c.sent.inside.sender in
    let e : o.sender ≡ q = sym (ap (λ (y : Offer). y.sender) c.sent.view_is) in
    let notes : Notes i.domains t id q = subst (λ y. Notes i.domains t y q) (sym c.met-id.ensures) (subst (λ z. Notes i.domains t (met_id i.domains c.args.to c.args.to_port z) z) e (deliver_notes i.domains d g o.port c.args.to c.args.to_port o.kind o.load)) in
    let P : State → Type 0 = λ s. AreLevel (record { state = s; sends = i.sends; waits = i.waits }) in
    subst P (ap (λ x. x.state) c.in_ok-outcome.ensures.ok)
    (level_noted_apart w t id q (valid_fit (Vcpu d g) a i.domains c.requires c.self.invariant.valid) notes (sym c.is_any.ensures ∙ c.if-not-is_any.true) c.self.invariant)

pub invariant_of-self-2 : goal.invariant_of-self-2
invariant_of-self-2 g c =
    let i = c.self.inside in
    let w : Levels = record { state = i.domains; sends = i.sends; waits = i.waits } in
    let o = c.args.sent.now in
    let d = o.sender in
    let g = c.args.generation in
    let a = Deliver o.port c.args.to c.args.to_port o.kind o.load in
    let id = c.met-id.result in
    let wild = sym c.is_any.ensures ∙ c.if-not-is_any.false in
    let t = (act (Vcpu d g) a i.domains).state in
    let q = c.sent.inside.sender in
    let e : o.sender ≡ q = sym (ap (λ (y : Offer). y.sender) c.sent.view_is) in
    let notes : Notes i.domains t id q = subst (λ y. Notes i.domains t y q) (sym c.met-id.ensures) (subst (λ z. Notes i.domains t (met_id i.domains c.args.to c.args.to_port z) z) e (deliver_notes i.domains d g o.port c.args.to c.args.to_port o.kind o.load)) in
    let P : State → Type 0 = λ s. c.is_noted-waits.result ≡ is_noted s id q → AreLevel (record { state = s; sends = i.sends; waits = c.keep_if.new.lists }) in
    either P c.deliver-outcome.result (act (Vcpu d g) a i.domains) i.domains c.deliver-outcome.new.self c.deliver-outcome.ensures.ok c.deliver-outcome.ensures.err
    (λ keep. level_noted w i.domains id q c.add.new.self c.keep_if.new.lists c.is_noted-waits.result c.self.invariant.valid (notes_self i.domains id q) wild c.in_ok-add.ensures.ok c.keep_if.ensures.names keep c.self.invariant)
    (λ keep. level_noted w t id q c.add.new.self c.keep_if.new.lists c.is_noted-waits.result (valid_fit (Vcpu d g) a i.domains c.requires c.self.invariant.valid) notes wild c.in_ok-add.ensures.ok c.keep_if.ensures.names keep c.self.invariant)
    c.is_noted-waits.ensures
