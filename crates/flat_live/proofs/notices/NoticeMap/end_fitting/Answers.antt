use Rattle.std.proofs.Common.{◌∙◌, ap, filter, rules}
use Rattle.std.proofs.lemmas.Map.Made.{filter_same_pairs}
use Rattle.argo_model.specs.Rules.Sweep.{waits_on}
use Rattle.flat_live.proofs.notices.NoticeMap.end_fitting.Goals as goal

pub returns : goal.returns
returns c =
    filter_same_pairs _ (waits_on c.args.free) _ (λ k v b w f t. search rules) _ _ c.retain.ensures.filtered
    ∙ ap (filter (waits_on c.args.free)) c.self.view_is
