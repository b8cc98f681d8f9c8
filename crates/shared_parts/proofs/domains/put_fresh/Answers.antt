use Rattle.std.proofs.Common.{ap, ◌∙◌}
use Rattle.std.specs.BTreeMap.{insert_entry}
use Rattle.std.specs.Ordering.{nat_cmp}
use Rattle.shared_parts.proofs.domains.put_fresh.Goals as goal

pub returns : goal.returns
returns c = c.in_ok-insert.ensures.entries ∙ ap (insert_entry nat_cmp c.args.domains.now.entries c.args.line.now.id) c.in_ok-domain.ensures
