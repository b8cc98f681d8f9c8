use Rattle.std.proofs.Common.{◌∙◌, ap, sym, subst, Err}
use Rattle.std.specs.Result.{result_err}
use Rattle.std.proofs.lemmas.Option.{same_Some}
use Rattle.guest_pages.specs.declared.lend_fault.LendFault.TheVariants as LendFault
use Rattle.guest_pages.specs.Allocated.{IsGrown}
use Rattle.guest_pages.specs.Pages.{can_lend, row_of, without}
use Rattle.guest_pages.specs.PrivateInside.{ArePages}
use Rattle.guest_pages.proofs.AllocatedLaws.{each_same, grown_seen, same_page}
use Rattle.guest_pages.proofs.Lending.{has_lent, could_not, stands_again}
use Rattle.guest_pages.proofs.private.Private.lend.Goals as goal

pub invariant_of-result : goal.invariant_of-result
invariant_of-result c =
    (has_lent c.self.inside.slots.items c.swap_in.new.pages.items c.args.numbers.now c.in_ok-places.places.items c.swap_in.new.row.items
    c.allocate.new.row.items c.self.invariant c.in_ok-places.ensures c.swap_in.ensures.pages c.swap_in.ensures.row c.in_default.ensures.ok
    c.in_default.ensures.full).is_row

pub invariant_of-self : goal.invariant_of-self
invariant_of-self c =
    (has_lent c.self.inside.slots.items c.swap_in.new.pages.items c.args.numbers.now c.in_ok-places.places.items c.swap_in.new.row.items
    c.allocate.new.row.items c.self.invariant c.in_ok-places.ensures c.swap_in.ensures.pages c.swap_in.ensures.row c.in_default.ensures.ok
    c.in_default.ensures.full).are_pages

pub returns-in_default-clause-row : goal.returns-in_default-clause-row
returns-in_default-clause-row c =
    (has_lent c.self.inside.slots.items c.swap_in.new.pages.items c.args.numbers.now c.in_ok-places.places.items c.swap_in.new.row.items
    c.allocate.new.row.items c.self.invariant c.in_ok-places.ensures c.swap_in.ensures.pages c.swap_in.ensures.row c.in_default.ensures.ok
    c.in_default.ensures.full).seen
    ∙ ap (λ pages. row_of pages c.args.numbers.now) c.self.view_is

pub returns-in_default-clause-left : goal.returns-in_default-clause-left
returns-in_default-clause-left c =
    (has_lent c.self.inside.slots.items c.swap_in.new.pages.items c.args.numbers.now c.in_ok-places.places.items c.swap_in.new.row.items
    c.allocate.new.row.items c.self.invariant c.in_ok-places.ensures c.swap_in.ensures.pages c.swap_in.ensures.row c.in_default.ensures.ok
    c.in_default.ensures.full).rest
    ∙ ap (λ pages. without pages c.args.numbers.now) c.self.view_is

pub returns-in_default-clause-could : goal.returns-in_default-clause-could
returns-in_default-clause-could c =
    ap (λ pages. can_lend pages c.args.numbers.now) (sym c.self.view_is)
    ∙ (has_lent c.self.inside.slots.items c.swap_in.new.pages.items c.args.numbers.now c.in_ok-places.places.items c.swap_in.new.row.items
    c.allocate.new.row.items c.self.invariant c.in_ok-places.ensures c.swap_in.ensures.pages c.swap_in.ensures.row c.in_default.ensures.ok
    c.in_default.ensures.full).could

pub invariant_of-self-2 : goal.invariant_of-self-2
invariant_of-self-2 c =
    subst ArePages (sym (grown_seen c.self.inside.slots.items c.swap_back.new.pages.items
    (stands_again c.self.inside.slots.items c.swap_in.new.pages.items c.swap_in.new.pages.items c.swap_back.new.pages.items
    c.in_ok-places.places.items c.swap_in.new.row.items c.allocate.new.row.items c.swap_back.new.row.items c.swap_in.ensures.pages
    c.swap_in.ensures.row (each_same IsGrown same_page c.swap_in.new.pages.items) c.in-Err.ensures.err c.swap_back.ensures.pages
    c.swap_back.ensures.row).pages_so))
    c.self.invariant

pub returns-clause-pages : goal.returns-clause-pages
returns-clause-pages c =
    λ fault.
    ap (λ pages. can_lend pages c.args.numbers.now) (sym c.self.view_is)
    ∙ could_not c.self.inside.slots.items c.args.numbers.now c.in_ok-places.places.items c.swap_in.new.row.items c.in_ok-places.ensures
    c.swap_in.ensures.row (c.allocate.ensures.pages (c.in-Err.is ∙ ap Err (same_Some c.in-Err.fault LendFault.Pages (ap result_err fault))))

pub returns-clause-err : goal.returns-clause-err
returns-clause-err c =
    grown_seen c.self.inside.slots.items c.swap_back.new.pages.items
    (stands_again c.self.inside.slots.items c.swap_in.new.pages.items c.swap_in.new.pages.items c.swap_back.new.pages.items
    c.in_ok-places.places.items c.swap_in.new.row.items c.allocate.new.row.items c.swap_back.new.row.items c.swap_in.ensures.pages
    c.swap_in.ensures.row (each_same IsGrown same_page c.swap_in.new.pages.items) c.in-Err.ensures.err c.swap_back.ensures.pages
    c.swap_back.ensures.row).pages_so
    ∙ c.self.view_is
