use Rattle.std.proofs.Common.{◌≡◌, [], ◌∙◌, ap, sym, length}
use Rattle.std.specs.Prelude.{unwrap_or}
use Rattle.guest_pages.specs.PageBytes.{page_of}
use Rattle.guest_pages.proofs.PageLaws.{page_of_none, page_of-whole}
use Rattle.guest_pages.proofs.lazy_page.LazyPage.allocate.Goals as goal

pub returns-in-Some-clause-ok : goal.returns-in-Some-clause-ok
returns-in-Some-clause-ok c =
    let now = sym c.self.view_is ∙ ap (λ o. unwrap_or o []) c.in-Some.is in
    sym (page_of-whole c.args.self.now (ap length now ∙ c.bytes.ensures.whole))

pub returns-clause-ok : goal.returns-clause-ok
returns-clause-ok c =
    let none : c.args.self.now ≡ [] = sym c.self.view_is ∙ ap (λ o. unwrap_or o []) c.in_default.is in
    c.in_ok-page.ensures ∙ sym page_of_none ∙ ap page_of (sym none)
