use Rattle.std.proofs.Common.{sym, ap, ◌∙◌}
use Rattle.argo_base.specs.Numbers.{all_differ}
use Rattle.guest_pages.specs.Rows.{numbers_of}
use Rattle.guest_pages.proofs.RowLaws.{numbers_of-numbered, row_whole}
use Rattle.guest_pages.proofs.page_row.PageRow.count.Goals as goal

pub returns-clause-differ : goal.returns-clause-differ
returns-clause-differ c =
    ap (λ row. all_differ (numbers_of row)) (sym c.self.view_is)
    ∙ ap all_differ (numbers_of-numbered c.self.inside.places.items)
    ∙ c.self.invariant.differ

pub returns-clause-whole : goal.returns-clause-whole
returns-clause-whole c = row_whole c.self.inside.places.items c.args.self.now c.self.invariant c.self.view_is
