use Rattle.std.proofs.Common.{◌∙◌, ap, sym, length}
use Rattle.guest_pages.proofs.page.Page.bytes.Goals as goal

pub returns-clause-value : goal.returns-clause-value
returns-clause-value c = c.as_slice.ensures ∙ c.self.view_is

pub returns-clause-whole : goal.returns-clause-whole
returns-clause-whole c = ap length (sym c.self.view_is) ∙ c.self.invariant
