use Rattle.std.proofs.Common.{◌≡◌, drop}
use Rattle.flat_live.specs.FreePages.{with_pages}
use Rattle.flat_live.proofs.free_pages.take.Given as goal

-- the pages that are left make the same table
abbrev pub invariant-loop-page : goal.invariant-loop-page
invariant-loop-page l = with_pages l.table (drop l.page-index l.pages) ≡ with_pages l.initial.table l.pages
