use Rattle.std.proofs.Common.{◌∙◌, ap, length}
use Rattle.guest_pages.specs.PageBytes.{zero_page}
use Rattle.guest_pages.proofs.PageLaws.{length-zero_page}
use Rattle.guest_pages.proofs.page.Page.new.Goals as goal

pub invariant_of-result : goal.invariant_of-result
unfolding zero_page
invariant_of-result c = ap length (c.from_vec.ensures ∙ c.in_ok-vec.ensures.items_if_clones_equal (λ y h. h)) ∙ length-zero_page

pub returns : goal.returns
unfolding zero_page
returns c = c.from_vec.ensures ∙ c.in_ok-vec.ensures.items_if_clones_equal (λ y h. h)
