use Rattle.std.proofs.Common.{◌≡◌, ◌∙◌, false, subst, rules}
use Rattle.std.specs.Bool.{OnFalse}
use Rattle.argo_base.proofs.ring_id_set.RingIdSet.add.Goals as goal

pub returns-clause-member : goal.returns-clause-member
returns-clause-member c member =
    let old : c.in_ok-insert.field-0 ≡ false = search (rules, c.in_ok-insert.ensures.added, c.self.view_is, member) in
    subst (λ b. OnFalse b (c.insert.new.self.keys ≡ c.self.inside.ids.keys)) old c.in_ok-insert.ensures.unchanged ∙ c.self.view_is
