use Rattle.std.proofs.Common.{◌∙◌, ap, length}
use Rattle.guest_pages.proofs.page.Page.twin.Goals as goal

pub invariant_of-result : goal.invariant_of-result
invariant_of-result c = ap length (c.in_ok-copy_of.ensures ∙ c.bytes.ensures.value) ∙ c.bytes.ensures.whole

pub returns : goal.returns
returns c = c.in_ok-copy_of.ensures ∙ c.bytes.ensures.value
