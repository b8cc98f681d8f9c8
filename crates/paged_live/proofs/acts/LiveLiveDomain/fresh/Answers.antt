use Rattle.std.proofs.Common.{◌∙◌, ap, sym, subst}
use Rattle.paged_live.specs.Parts.{seen, IsParts}
use Rattle.paged_live.proofs.FreshLaws.{fresh_parts, fresh_seen, same_start}
use Rattle.paged_live.proofs.acts.LiveLiveDomain.fresh.Goals as goal

pub invariant_of-result : goal.invariant_of-result
invariant_of-result c =
    subst IsParts (sym (same_start c.args.pages c.in_ok-private.private c.in_ok-homes.homes.items c.new-2.result c.in_ok-private.ensures c.in_ok-homes.ensures c.new-2.ensures))
    (fresh_parts c.args.pages)

pub returns : goal.returns
returns c =
    ap seen (same_start c.args.pages c.in_ok-private.private c.in_ok-homes.homes.items c.new-2.result c.in_ok-private.ensures c.in_ok-homes.ensures c.new-2.ensures)
    ∙ fresh_seen c.args.pages
