use Rattle.std.proofs.Common.{◌≡◌, [], ◌∙◌, ap, sym, length}
use Rattle.std.specs.Prelude.{unwrap_or}
use Rattle.guest_pages.specs.PageBytes.{page_of}
use Rattle.guest_pages.proofs.PageLaws.{page_of_none, page_of-whole, length-page_of}
use Rattle.guest_pages.proofs.lazy_page.LazyPage.bytes.Goals as goal

pub returns-in-Some-clause-value : goal.returns-in-Some-clause-value
returns-in-Some-clause-value c =
    let now = sym c.self.view_is ∙ ap (λ o. unwrap_or o []) c.in-Some.is in
    c.bytes.ensures.value ∙ sym now ∙ sym (page_of-whole c.args.self.now (ap length now ∙ c.bytes.ensures.whole))

pub returns-in-Some-clause-whole : goal.returns-in-Some-clause-whole
returns-in-Some-clause-whole c = ap length c.bytes.ensures.value ∙ c.bytes.ensures.whole

pub returns-in-None-clause-value : goal.returns-in-None-clause-value
returns-in-None-clause-value c =
    let none : c.args.self.now ≡ [] = sym c.self.view_is ∙ ap (λ o. unwrap_or o []) c.in-None.is in
    c.bytes-in-None.ensures ∙ sym page_of_none ∙ ap page_of (sym none)

pub returns-in-None-clause-whole : goal.returns-in-None-clause-whole
returns-in-None-clause-whole c = ap length (c.bytes-in-None.ensures ∙ sym page_of_none) ∙ length-page_of []
