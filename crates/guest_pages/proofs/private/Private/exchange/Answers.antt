use Rattle.std.proofs.Common.{◌∙◌, ap, sym, subst, map, Err}
use Rattle.guest_pages.specs.Allocated.{IsGrown, IsGrownPlace}
use Rattle.guest_pages.specs.Pages.{can_lend, row_of, without}
use Rattle.guest_pages.specs.PrivateInside.{ArePages}
use Rattle.guest_pages.specs.RowInside.{IsRow}
use Rattle.guest_pages.specs.Rows.{numbered}
use Rattle.guest_pages.proofs.AllocatedLaws.{each_same, grown_row, grown_seen, same_page, same_place_grown}
use Rattle.guest_pages.proofs.Lending.{could_not, has_lent, has_row, stands_again}
use Rattle.guest_pages.proofs.private.Private.exchange.Goals as goal

-- the old row was given back, and then the pages were lent
pub invariant_of-result : goal.invariant_of-result
invariant_of-result c =
    (has_lent c.swap_in.new.pages.items c.swap_in-2.new.pages.items c.args.numbers.now c.in-Ok.places.items c.swap_in-2.new.row.items
    c.allocate.new.row.items (has_row c.self.inside.slots.items c.args.self.now c.swap_in.new.pages.items c.old.inside.places.items c.args.old c.self.invariant
    c.old.invariant c.self.view_is c.old.view_is c.swap_in.ensures.pages).are_pages
    c.in-Ok.ensures c.swap_in-2.ensures.pages c.swap_in-2.ensures.row c.in_default.ensures.ok c.in_default.ensures.full).is_row

pub invariant_of-self : goal.invariant_of-self
invariant_of-self c =
    (has_lent c.swap_in.new.pages.items c.swap_in-2.new.pages.items c.args.numbers.now c.in-Ok.places.items c.swap_in-2.new.row.items
    c.allocate.new.row.items (has_row c.self.inside.slots.items c.args.self.now c.swap_in.new.pages.items c.old.inside.places.items c.args.old c.self.invariant
    c.old.invariant c.self.view_is c.old.view_is c.swap_in.ensures.pages).are_pages
    c.in-Ok.ensures c.swap_in-2.ensures.pages c.swap_in-2.ensures.row c.in_default.ensures.ok c.in_default.ensures.full).are_pages

pub returns-in_default-clause-row : goal.returns-in_default-clause-row
returns-in_default-clause-row c =
    (has_lent c.swap_in.new.pages.items c.swap_in-2.new.pages.items c.args.numbers.now c.in-Ok.places.items c.swap_in-2.new.row.items
    c.allocate.new.row.items (has_row c.self.inside.slots.items c.args.self.now c.swap_in.new.pages.items c.old.inside.places.items c.args.old c.self.invariant
    c.old.invariant c.self.view_is c.old.view_is c.swap_in.ensures.pages).are_pages
    c.in-Ok.ensures c.swap_in-2.ensures.pages c.swap_in-2.ensures.row c.in_default.ensures.ok c.in_default.ensures.full).seen
    ∙ ap (λ pages. row_of pages c.args.numbers.now)
    (has_row c.self.inside.slots.items c.args.self.now c.swap_in.new.pages.items c.old.inside.places.items c.args.old c.self.invariant
    c.old.invariant c.self.view_is c.old.view_is c.swap_in.ensures.pages).is

pub returns-in_default-clause-left : goal.returns-in_default-clause-left
returns-in_default-clause-left c =
    (has_lent c.swap_in.new.pages.items c.swap_in-2.new.pages.items c.args.numbers.now c.in-Ok.places.items c.swap_in-2.new.row.items
    c.allocate.new.row.items (has_row c.self.inside.slots.items c.args.self.now c.swap_in.new.pages.items c.old.inside.places.items c.args.old c.self.invariant
    c.old.invariant c.self.view_is c.old.view_is c.swap_in.ensures.pages).are_pages
    c.in-Ok.ensures c.swap_in-2.ensures.pages c.swap_in-2.ensures.row c.in_default.ensures.ok c.in_default.ensures.full).rest
    ∙ ap (λ pages. without pages c.args.numbers.now)
    (has_row c.self.inside.slots.items c.args.self.now c.swap_in.new.pages.items c.old.inside.places.items c.args.old c.self.invariant
    c.old.invariant c.self.view_is c.old.view_is c.swap_in.ensures.pages).is

pub returns-in_default-clause-could : goal.returns-in_default-clause-could
returns-in_default-clause-could c =
    ap (λ pages. can_lend pages c.args.numbers.now)
    (sym (has_row c.self.inside.slots.items c.args.self.now c.swap_in.new.pages.items c.old.inside.places.items c.args.old c.self.invariant
    c.old.invariant c.self.view_is c.old.view_is c.swap_in.ensures.pages).is)
    ∙ (has_lent c.swap_in.new.pages.items c.swap_in-2.new.pages.items c.args.numbers.now c.in-Ok.places.items c.swap_in-2.new.row.items
    c.allocate.new.row.items (has_row c.self.inside.slots.items c.args.self.now c.swap_in.new.pages.items c.old.inside.places.items c.args.old c.self.invariant
    c.old.invariant c.self.view_is c.old.view_is c.swap_in.ensures.pages).are_pages
    c.in-Ok.ensures c.swap_in-2.ensures.pages c.swap_in-2.ensures.row c.in_default.ensures.ok c.in_default.ensures.full).could

-- all that changed places changed back, and some pages took their memory
pub invariant_of-result-2 : goal.invariant_of-result-2
invariant_of-result-2 c =
    let last =
    stands_again c.swap_in.new.pages.items c.swap_in-2.new.pages.items c.swap_in-2.new.pages.items c.swap_back.new.pages.items c.in-Ok.places.items
    c.swap_in-2.new.row.items c.allocate.new.row.items c.swap_back.new.row.items c.swap_in-2.ensures.pages c.swap_in-2.ensures.row
    (each_same IsGrown same_page c.swap_in-2.new.pages.items) c.in-Err-allocate.ensures.err c.swap_back.ensures.pages c.swap_back.ensures.row in
    let first =
    stands_again c.self.inside.slots.items c.swap_in.new.pages.items c.swap_back.new.pages.items c.swap_back-2.new.pages.items
    c.old.inside.places.items c.swap_in.new.row.items c.swap_in.new.row.items c.swap_back-2.new.row.items c.swap_in.ensures.pages
    c.swap_in.ensures.row last.pages_so (each_same IsGrownPlace same_place_grown c.swap_in.new.row.items) c.swap_back-2.ensures.pages
    c.swap_back-2.ensures.row in
    subst IsRow (sym (grown_row c.old.inside.places.items c.swap_back-2.new.row.items c.old.invariant.whole first.row_so)) c.old.invariant

pub invariant_of-self-2 : goal.invariant_of-self-2
invariant_of-self-2 c =
    let last =
    stands_again c.swap_in.new.pages.items c.swap_in-2.new.pages.items c.swap_in-2.new.pages.items c.swap_back.new.pages.items c.in-Ok.places.items
    c.swap_in-2.new.row.items c.allocate.new.row.items c.swap_back.new.row.items c.swap_in-2.ensures.pages c.swap_in-2.ensures.row
    (each_same IsGrown same_page c.swap_in-2.new.pages.items) c.in-Err-allocate.ensures.err c.swap_back.ensures.pages c.swap_back.ensures.row in
    let first =
    stands_again c.self.inside.slots.items c.swap_in.new.pages.items c.swap_back.new.pages.items c.swap_back-2.new.pages.items
    c.old.inside.places.items c.swap_in.new.row.items c.swap_in.new.row.items c.swap_back-2.new.row.items c.swap_in.ensures.pages
    c.swap_in.ensures.row last.pages_so (each_same IsGrownPlace same_place_grown c.swap_in.new.row.items) c.swap_back-2.ensures.pages
    c.swap_back-2.ensures.row in
    subst ArePages (sym (grown_seen c.self.inside.slots.items c.swap_back-2.new.pages.items first.pages_so)) c.self.invariant

pub returns-clause-pages : goal.returns-clause-pages
returns-clause-pages c =
    λ fault.
    ap (λ pages. can_lend pages c.args.numbers.now)
    (sym (has_row c.self.inside.slots.items c.args.self.now c.swap_in.new.pages.items c.old.inside.places.items c.args.old c.self.invariant
    c.old.invariant c.self.view_is c.old.view_is c.swap_in.ensures.pages).is)
    ∙ could_not c.swap_in.new.pages.items c.args.numbers.now c.in-Ok.places.items c.swap_in-2.new.row.items c.in-Ok.ensures c.swap_in-2.ensures.row
    (c.allocate.ensures.pages (c.in-Err-allocate.is ∙ ap Err fault))

pub returns-clause-old_back : goal.returns-clause-old_back
returns-clause-old_back c =
    let last =
    stands_again c.swap_in.new.pages.items c.swap_in-2.new.pages.items c.swap_in-2.new.pages.items c.swap_back.new.pages.items c.in-Ok.places.items
    c.swap_in-2.new.row.items c.allocate.new.row.items c.swap_back.new.row.items c.swap_in-2.ensures.pages c.swap_in-2.ensures.row
    (each_same IsGrown same_page c.swap_in-2.new.pages.items) c.in-Err-allocate.ensures.err c.swap_back.ensures.pages c.swap_back.ensures.row in
    let first =
    stands_again c.self.inside.slots.items c.swap_in.new.pages.items c.swap_back.new.pages.items c.swap_back-2.new.pages.items
    c.old.inside.places.items c.swap_in.new.row.items c.swap_in.new.row.items c.swap_back-2.new.row.items c.swap_in.ensures.pages
    c.swap_in.ensures.row last.pages_so (each_same IsGrownPlace same_place_grown c.swap_in.new.row.items) c.swap_back-2.ensures.pages
    c.swap_back-2.ensures.row in
    ap (λ row. map numbered row)
    (grown_row c.old.inside.places.items c.swap_back-2.new.row.items c.old.invariant.whole first.row_so)
    ∙ c.old.view_is

pub returns-clause-err : goal.returns-clause-err
returns-clause-err c =
    let last =
    stands_again c.swap_in.new.pages.items c.swap_in-2.new.pages.items c.swap_in-2.new.pages.items c.swap_back.new.pages.items c.in-Ok.places.items
    c.swap_in-2.new.row.items c.allocate.new.row.items c.swap_back.new.row.items c.swap_in-2.ensures.pages c.swap_in-2.ensures.row
    (each_same IsGrown same_page c.swap_in-2.new.pages.items) c.in-Err-allocate.ensures.err c.swap_back.ensures.pages c.swap_back.ensures.row in
    let first =
    stands_again c.self.inside.slots.items c.swap_in.new.pages.items c.swap_back.new.pages.items c.swap_back-2.new.pages.items
    c.old.inside.places.items c.swap_in.new.row.items c.swap_in.new.row.items c.swap_back-2.new.row.items c.swap_in.ensures.pages
    c.swap_in.ensures.row last.pages_so (each_same IsGrownPlace same_place_grown c.swap_in.new.row.items) c.swap_back-2.ensures.pages
    c.swap_back-2.ensures.row in
    grown_seen c.self.inside.slots.items c.swap_back-2.new.pages.items first.pages_so ∙ c.self.view_is
