use Rattle.std.proofs.Common.{◌≤◌, List, length, ap, ◌∙◌, sym, subst}
use Rattle.std.specs.BTreeMap.{is_at}
use Rattle.argo_base.specs.Match.{id_cmp}
use Rattle.argo_base.specs.RingIds.{has_id}
use Rattle.argo_base.specs.declared.ring_key.RingId.{RingId}
use Rattle.domain_lists.proofs.IdLaws.{has_removed, length_removed}
use Rattle.domain_lists.proofs.lists.take_out.Goals as goal

pub returns-then-len-gt0-clause-names : goal.returns-then-len-gt0-clause-names
returns-then-len-gt0-clause-names c =
    λ x. ap (λ (l : List RingId). has_id l x) c.remove.ensures.rest ∙ has_removed c.args.ids.now c.args.id x c.len.ensures.rising

pub returns-then-len-gt0-clause-length : goal.returns-then-len-gt0-clause-length
returns-then-len-gt0-clause-length c =
    subst (λ (l : List RingId). length l ≤ length c.args.ids.now) (sym c.remove.ensures.rest) (length_removed (is_at (id_cmp c.args.id)) c.args.ids.now)
