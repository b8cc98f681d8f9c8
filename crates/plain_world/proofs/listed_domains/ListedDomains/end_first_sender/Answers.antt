use Rattle.std.proofs.Common.{sym, ap, ◌∙◌, subst}
use Rattle.argo_base.specs.Match.{key_in}
use Rattle.argo_model.specs.Rules.Destroy.{forget}
use Rattle.argo_model.specs.Rules.State.{State}
use Rattle.plain_world.specs.Levels.{Levels, AreLevel}
use Rattle.touch_laws.proofs.EndLaws.{sender_ended}
use Rattle.touch_laws.proofs.LeftLaws.{valid_end, still_none}
use Rattle.plain_world.proofs.LevelActs.{sender_is, sender_for, sends_without, waits_without}
use Rattle.state_laws.proofs.Lives.{key_same}
use Rattle.plain_world.proofs.listed_domains.ListedDomains.end_first_sender.Goals as goal
use Rattle.domains.specs.ById.{rings_of}

pub invariant_of-self-2 : goal.invariant_of-self-2
invariant_of-self-2 g c =
    let i = c.self.inside in
    let w : Levels = record { state = i.domains; sends = i.sends; waits = i.waits } in
    let d = c.args.dom in
    let id = c.in-Some.id in
    let P : State → Type 0 = λ s. AreLevel (record { state = s; sends = c.take_first.new.self; waits = c.take_off_noted.new.lists }) in
    subst P (sym c.end_ring.ensures) (record {
      valid = valid_end i.domains id c.self.invariant.valid;
      sends = sends_without w id c.self.invariant c.take_first.new.self d (sender_is w d id c.self.invariant c.in-Some.ensures.taken) c.in-Some.ensures.names;
      waits = waits_without w id c.self.invariant c.take_off_noted.new.lists c.noted.result.now c.noted.ensures c.take_off_noted.ensures.names;
    })

pub returns-clause-rings : goal.returns-clause-rings
returns-clause-rings g c =
    let i = c.self.inside in
    let d = c.args.dom in
    ap (λ s. rings_of s d) c.end_ring.ensures ∙ still_none i.domains c.in-Some.id d (ap (λ (w : Levels). rings_of w.state d) c.self.view_is ∙ c.requires)

pub returns-clause-same : goal.returns-clause-same
returns-clause-same g c =
    let i = c.self.inside in
    let w : Levels = record { state = i.domains; sends = i.sends; waits = i.waits } in
    let d = c.args.dom in
    let id = c.in-Some.id in
    ap (λ s. forget s d) c.end_ring.ensures
    ∙ sender_ended i.domains id d (sender_for w d id c.self.invariant c.in-Some.ensures.taken) (λ k h. key_same (key_in id) k h)
    ∙ ap (λ (w : Levels). forget w.state d) c.self.view_is
