use Rattle.std.proofs.Common.{IsTrue, sym, subst, ◌∙◌}
use Rattle.std.specs.List.{list_all}
use Rattle.argo_base.proofs.SlotLaws.{legal}
use Rattle.argo_model.specs.Rules.Register.{can_fit}
use Rattle.ring_core.proofs.NoticeLaws.{all_told}
use Rattle.ring_core.proofs.ring.Ring.turn_away.Goals as goal

pub invariant_of-self : goal.invariant_of-self
invariant_of-self c =
    let i = c.self.invariant in
    let len = c.self.inside.len in
    record {
      legal = i.legal;
      counted = i.counted;
      place = i.place;
      able =
          subst (λ ns. IsTrue (list_all (can_fit len) ns)) (sym c.note.ensures.left)
          (all_told len c.self.inside.notices c.args.sender c.args.size (legal len i.legal).least i.able (sym c.too_big.ensures ∙ c.if-too_big.false));
      clean = i.clean;
      dirty = i.dirty;
    }
