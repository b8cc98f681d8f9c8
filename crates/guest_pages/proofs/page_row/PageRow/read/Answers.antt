use Rattle.std.proofs.Common.{[], Some, ◌∙◌, ap, sym, length, take, drop}
use Rattle.std.specs.Prelude.{unwrap_or}
use Rattle.guest_pages.proofs.FlatLaws.{length-row_bytes, page-row_bytes}
use Rattle.guest_pages.proofs.RowLaws.{page_in-numbered, row_whole}
use Rattle.guest_pages.proofs.page_row.PageRow.read.Goals as goal

pub returns-clause-bytes : goal.returns-clause-bytes
returns-clause-bytes c =
    let at = page_in-numbered c.self.inside.places.items c.args.self.now c.args.place c.index.result.now c.self.view_is c.requires.inside c.index.ensures in
    c.read.ensures
    ∙ ap (λ p. take (length c.args.buf.now) (drop c.args.off (unwrap_or p []))) (sym (c.page.ensures.value ∙ ap Some (sym c.page-2.ensures)))
    ∙ ap (λ p. take (length c.args.buf.now) (drop c.args.off p.1)) (sym at)
    ∙ page-row_bytes c.args.self.now c.args.place c.args.off (length c.args.buf.now)
    (row_whole c.self.inside.places.items c.args.self.now c.self.invariant c.self.view_is) c.requires.inside c.requires.in_page

pub returns-clause-whole : goal.returns-clause-whole
returns-clause-whole c =
    length-row_bytes c.args.self.now (row_whole c.self.inside.places.items c.args.self.now c.self.invariant c.self.view_is)
