use Rattle.std.proofs.Common.{◌≡◌, drop}
use Rattle.flat_live.specs.FreePages.{are_free_in}
use Rattle.flat_live.proofs.free_pages.take_if_free.Given as goal

-- the pages that are left decide
abbrev pub invariant-loop-page : goal.invariant-loop-page
invariant-loop-page l = are_free_in l.table (drop l.page-index l.pages) ≡ are_free_in l.initial.table l.pages
