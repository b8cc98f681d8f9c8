use Rattle.std.proofs.Common.{◌≡◌, ◌<◌, ◌∙◌, ap, sym, length, slice_set, Some, None, arith}
use Rattle.std.proofs.lemmas.List.{get_or_default}
use Rattle.guest_pages.specs.Allocated.{shown}
use Rattle.guest_pages.specs.Pages.{page_at, with_written}
use Rattle.guest_pages.proofs.AllocatedLaws.{pages_written, shown_written}
use Rattle.guest_pages.proofs.private.Private.write.Goals as goal

pub invariant_of-self-2 : goal.invariant_of-self-2
invariant_of-self-2 c = pages_written c.self.inside.slots.items c.args.page c.write.new.self c.self.invariant

pub returns-clause-written : goal.returns-clause-written
returns-clause-written c =
    let pages = c.self.inside.slots.items in
    let inside : c.args.page < length pages = omega (arith, c.if-page-len.false, c.len.ensures) in
    let at : page_at pages c.args.page ≡ Some c.in-Some.page =
    get_or_default pages c.args.page None c.index_mut-slot.result.now inside ∙ sym c.index_mut-slot.ensures.value ∙ c.in-Some.is in
    ap (λ q. shown (slice_set pages c.args.page (Some q))) c.in_ok-write.ensures.ok
    ∙ shown_written pages c.args.page c.args.off c.in-Some.page c.args.bytes.now at c.requires
    ∙ ap (λ x. with_written x c.args.page c.args.off c.args.bytes.now) c.self.view_is
