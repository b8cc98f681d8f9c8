use Rattle.std.proofs.Common.{◌≡◌, ℕ, List, [], sym, ap, ◌∙◌, subst}
use Rattle.argo_model.specs.declared.scripts.Actor.TheVariants.{Vcpu}
use Rattle.argo_model.specs.Rules.Act.{act}
use Rattle.argo_model.specs.Rules.State.{State}
use Rattle.plain_world.specs.Levels.{Levels, AreLevel}
use Rattle.touch_laws.specs.Touches.{Touches}
use Rattle.touch_laws.proofs.TouchLaws.{registers_touches}
use Rattle.argo_base.specs.declared.ring_key.RingId.{RingId}
use Rattle.live_domain.specs.declared.registration.Registration.{Registration}
use Rattle.domains.specs.World.{registered}
use Rattle.plain_world.proofs.LevelActs.{sends_in, waits_off}
use Rattle.touch_laws.proofs.RingLaws.{touches_same}
use Rattle.state_laws.specs.Valid.{IsValid}
use Rattle.state_laws.proofs.Courses.{valid_fit}
use Rattle.plain_world.proofs.listed_domains.ListedDomainsDomainActs.register.Goals as goal
use Rattle.section_world.specs.Acts.{registers}
use Rattle.domains.specs.ById.{id_in, stands}

touched : (s t : State) (d g : ℕ) (r : Registration) → IsValid s → (id : RingId) (doms : List ℕ) → (act (Vcpu d g) (registers r) s).state ≡ t → id ≡ id_in d r.key → doms ≡ registered s d g r → Touches s t id doms
touched s t d g r v id doms left is signals =
    subst (λ u. Touches s u id doms) left
    (subst (λ y. Touches s (act (Vcpu d g) (registers r) s).state y doms) (sym is)
    (subst (λ ds. Touches s (act (Vcpu d g) (registers r) s).state (id_in d r.key) ds) (sym signals) (registers_touches s d g r v)))

pub invariant_of-self-in_err-change : goal.invariant_of-self-in_err-change
invariant_of-self-in_err-change g c =
    let i = c.self.inside in
    let w : Levels = record { state = i.domains; sends = i.sends; waits = i.waits } in
    let id = c.id_of-id.result in
    let same = c.in_err-change.ensures.err in
    let P : State → Type 0 = λ s. AreLevel (record { state = s; sends = c.keep_if.new.lists; waits = i.waits }) in
    subst P (sym same) (record {
      valid = c.self.invariant.valid;
      sends = sends_in w i.domains id [] (touches_same i.domains id) c.self.invariant c.add.new.self c.keep_if.new.lists c.stands-stands.result c.in_ok-add.ensures.ok c.keep_if.ensures.names
          (c.stands-stands.ensures ∙ ap (λ s. stands s id) same);
      waits = c.self.invariant.waits;
    })

pub invariant_of-self-2 : goal.invariant_of-self-2
invariant_of-self-2 g c =
    let i = c.self.inside in
    let w : Levels = record { state = i.domains; sends = i.sends; waits = i.waits } in
    let d = c.args.dom in
    let g = c.args.generation in
    let a = registers c.args.r in
    let id = c.id_of-id.result in
    let t = c.register-change.new.self in
    let doms = c.as_slice.result.now in
    let touches : Touches i.domains t id doms = touched i.domains t d g c.args.r c.self.invariant.valid id doms (ap (λ x. x.state) c.in_ok-change.ensures.ok) c.id_of-id.ensures (c.as_slice.ensures.value ∙ c.in_ok-change.ensures.signals) in
    record {
      valid = subst IsValid (ap (λ x. x.state) c.in_ok-change.ensures.ok) (valid_fit (Vcpu d g) a i.domains c.requires.fit c.self.invariant.valid);
      sends = sends_in w t id doms touches c.self.invariant c.add.new.self c.keep_if.new.lists c.stands-stands.result c.in_ok-add.ensures.ok c.keep_if.ensures.names c.stands-stands.ensures;
      waits = waits_off w t id doms touches c.self.invariant c.take_off.new.lists c.take_off.ensures.names;
    }
