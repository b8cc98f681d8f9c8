use Rattle.std.proofs.Common.{rules}
use Rattle.std.proofs.lemmas.Map.Made.{map_same_pairs}
use Rattle.argo_model.specs.Rules.Puts.{after_put}
use Rattle.flat_live.proofs.puts.put_into_rings.Goals as goal

pub returns : goal.returns
returns c =
    map_same_pairs _ (λ r. after_put c.args.memory.now c.args.page c.args.off c.args.bytes.now r) _ (λ k v b w f' t. search rules) _ _ c.retain.ensures.filtered
