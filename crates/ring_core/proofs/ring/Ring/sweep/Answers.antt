use Rattle.std.proofs.Common.{IsTrue, sym, subst}
use Rattle.std.specs.List.{list_all}
use Rattle.argo_model.specs.Rules.Register.{can_fit}
use Rattle.ring_core.proofs.NoticeLaws.{all_filter}
use Rattle.ring_core.proofs.ring.Ring.sweep.Goals as goal

pub invariant_of-self : goal.invariant_of-self
invariant_of-self c =
    let i = c.self.invariant in
    record {
      legal = i.legal;
      counted = i.counted;
      place = i.place;
      able =
          subst (λ ns. IsTrue (list_all (can_fit c.self.inside.len) ns)) (sym c.take_fitting.ensures.left)
          (all_filter (can_fit c.self.inside.len) _ c.self.inside.notices i.able);
      clean = i.clean;
      dirty = i.dirty;
    }
