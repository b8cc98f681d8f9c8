use Rattle.std.proofs.Common.{refl, sym, subst}
use Rattle.argo_model.specs.Rules.State.{State}
use Rattle.plain_world.specs.Levels.{Levels, AreLevel}
use Rattle.touch_laws.proofs.LeftLaws.{valid_end}
use Rattle.plain_world.proofs.LevelActs.{sends_without, waits_without}
use Rattle.plain_world.proofs.listed_domains.ListedDomains.end_ring.Goals as goal

pub invariant_of-self : goal.invariant_of-self
invariant_of-self g c =
    let i = c.self.inside in
    let w : Levels = record { state = i.domains; sends = i.sends; waits = i.waits } in
    let id = c.args.id.now in
    let P : State → Type 0 = λ s. AreLevel (record { state = s; sends = c.remove.new.self; waits = c.take_off_noted.new.lists }) in
    subst P (sym c.end_ring.ensures) (record {
      valid = valid_end i.domains id c.self.invariant.valid;
      sends = sends_without w id c.self.invariant c.remove.new.self id.partner refl c.remove.ensures.names;
      waits = waits_without w id c.self.invariant c.take_off_noted.new.lists c.noted.result.now c.noted.ensures c.take_off_noted.ensures.names;
    })
