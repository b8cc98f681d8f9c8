use Rattle.std.proofs.Common.{◌≡◌, ◌∙◌, rules, ap, sym, subst, arith, replicate, Some}
use Rattle.std.proofs.lemmas.List.{length-replicate}
use Rattle.std.proofs.lemmas.List.Elements.{All-replicate}
use Rattle.guest_pages.specs.Allocated.{shown}
use Rattle.guest_pages.specs.PageBytes.{zero_page, IsWhole}
use Rattle.guest_pages.specs.PrivateInside.{ArePages}
use Rattle.guest_pages.proofs.AllocatedLaws.{shown_fresh}
use Rattle.guest_pages.proofs.PageLaws.{length-zero_page}
use Rattle.guest_pages.proofs.private.Private.new.Goals as goal

pub invariant_of-result : goal.invariant_of-result
invariant_of-result c =
    let pages : ArePages (replicate c.loop.counter (Some zero_page)) = record {
      few = omega (arith, length-replicate c.loop.counter (Some zero_page));
      whole = All-replicate IsWhole c.loop.counter (Some zero_page) length-zero_page;
    } in
    subst ArePages (sym (ap shown c.loop.invariant ∙ shown_fresh c.loop.counter)) pages

pub returns : goal.returns
returns c =
    let all : c.loop.counter ≡ c.args.count = search rules in
    ap shown c.loop.invariant ∙ shown_fresh c.loop.counter ∙ ap (λ n. replicate n (Some zero_page)) all
