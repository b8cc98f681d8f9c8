use Rattle.std.proofs.Common.{◌≡◌, ◌<◌, refl, ap, arith, length, subst, sym}
use Rattle.std.specs.Prelude.{slice_index_or, slice_set}
use Rattle.guest_pages.specs.Allocated.{Each, IsGrownPlace}
use Rattle.guest_pages.proofs.AllocatedLaws.{allocated_step, each_allocated, each_length, each_same, same_place_grown}
use Rattle.guest_pages.proofs.swaps.allocate_places.Goals as goal

pub loop-place-init : goal.loop-place-init
loop-place-init c = (refl, each_same IsGrownPlace same_place_grown c.args.row.now)

pub loop-place-preserved : goal.loop-place-preserved
loop-place-preserved c =
    let row = c.loop-place.row in
    let k = c.loop-place.place-index in
    let e = slice_index_or row k c.place-item.result in
    let is : e ≡ slice_index_or row k e = ap (λ x. slice_index_or row k x) c.place-item.is in
    let new = c.in_ok-allocate.ensures.ok in
    let inside : k < length row = omega (arith, c.loop-place-test.true, each_length IsGrownPlace c.args.row.now row c.loop-place.invariant.1) in (
      allocated_step c.args.row.now row k e c.allocate.new.self inside (sym is) new c.loop-place.invariant.0,
      subst (λ x. Each IsGrownPlace c.args.row.now (slice_set row k x)) (sym new)
          (each_allocated c.args.row.now row k e c.loop-place.invariant.1 is),
    )
