use Rattle.std.proofs.Common.{◌∙◌, ap, filter, rules}
use Rattle.std.proofs.lemmas.Map.Made.{filter_same_pairs}
use Rattle.argo_model.specs.Rules.Register.{can_fit}
use Rattle.flat_live.proofs.notices.NoticeMap.keep_able.Goals as goal

pub returns : goal.returns
returns c =
    filter_same_pairs _ (can_fit c.args.len) _ (λ k v b w f t. search rules) _ _ c.retain.ensures.filtered
    ∙ ap (filter (can_fit c.args.len)) c.self.view_is
