-- What is lent out of a page that takes its memory when it is written first, and out of a place that holds one.
use Rattle.std.specs.Prelude.{ℕ, List, Some}
use Rattle.std.specs.Borrow.{Lends, MutBor, Fml}
use Rattle.guest_pages.specs.declared.lazy_page.Lent.{Lent}
use Rattle.guest_pages.specs.declared.lazy_page.Frame.{Frame}
use Rattle.guest_pages.specs.contracts.page.Page as page
use Rattle.guest_pages.specs.contracts.lazy_page.Frame as frame
use Rattle.guest_pages.specs.contracts.lazy_page.LazyPage as lazy
use Rattle.guest_pages.specs.contracts.lazy_page.Lent as lent

-- the memory of a page ends with the page that the borrower leaves
abbrev pub LendsFrame : MutBor Frame → MutBor (List ℕ) → Fml
LendsFrame f r = Lends frame.the_row page.the_row f r (λ w. record f.now { page = Some w })

-- the page ends with the bytes that the borrower leaves
abbrev pub LendsPage : MutBor (List ℕ) → MutBor (List ℕ) → Fml
LendsPage p r = Lends lazy.the_row page.the_row p r (λ w. w)

-- the place ends with the page that the borrower leaves
abbrev pub LendsLazy : MutBor Lent → MutBor (List ℕ) → Fml
LendsLazy e r = Lends lent.the_row lazy.the_row e r (λ w. record e.now { page = Some w })
