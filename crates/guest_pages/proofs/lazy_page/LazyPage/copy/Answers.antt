use Rattle.std.proofs.Common.{◌≡◌, [], ◌∙◌, ap, sym, length, take, drop}
use Rattle.std.specs.Prelude.{unwrap_or}
use Rattle.guest_pages.specs.PageBytes.{page_of}
use Rattle.guest_pages.proofs.PageLaws.{page_of_none, page_of-whole}
use Rattle.guest_pages.proofs.lazy_page.LazyPage.copy.Goals as goal

pub returns-in_default : goal.returns-in_default
returns-in_default c =
    let none : c.args.self.now ≡ [] = sym c.self.view_is ∙ ap (λ o. unwrap_or o []) c.in_default.is in
    c.in_ok-copy.ensures ∙ ap (λ p. take c.args.n (drop c.args.off p)) (sym page_of_none ∙ ap page_of (sym none))

pub returns : goal.returns
returns c =
    let now = sym c.self.view_is ∙ ap (λ o. unwrap_or o []) c.in-Some.is in
    c.in_ok-copy-2.ensures.bytes
    ∙ ap (λ p. take c.args.n (drop c.args.off p)) (sym now ∙ sym (page_of-whole c.args.self.now (ap length now ∙ c.copy-2.ensures.whole)))
