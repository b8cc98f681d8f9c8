use Rattle.std.proofs.Common.{refl, subst}
use Rattle.argo_base.specs.Match.{key_in}
use Rattle.argo_model.specs.Rules.Effects.{after}
use Rattle.argo_model.specs.Rules.Query.{query_ring}
use Rattle.paged_live.proofs.ActLaws.{stands_still}
use Rattle.paged_live.proofs.HomeLaws.{AreWhole}
use Rattle.paged_live.proofs.queries.ask.Goals as goal

pub returns-clause-still : goal.returns-clause-still
returns-clause-still c =
    let old = c.args.ring.now in
    stands_still old c.query-answer.new.self (λ p. after p (query_ring p (key_in old.id) c.args.sender c.args.need)) c.query-answer.ensures.keeps.id c.query-answer.ensures.left (λ p. refl)
    (subst AreWhole c.row.ensures c.count.ensures.whole)
