use Rattle.std.proofs.Common.{◌≡◌, ◌+◌, ◌*◌, ◌/◌, ◌%◌, [], ◌++◌, length, drop, slice_index, refl, sym, ap, ◌∙◌, subst, arith}
use Rattle.std.proofs.lemmas.List.{take-append-drop}
use Rattle.argo_base.specs.Splice.{splice}
use Rattle.argo_base.proofs.SpliceLaws.{length-splice}
use Rattle.flat_live.specs.Memory.{WritesOn}
use Rattle.flat_live.proofs.LaidLaws.{none_left, writes_none, writes_all, writes_more}
use Rattle.flat_live.proofs.memory.write_at.Goals as goal

pub pieces-init : goal.pieces-init
pieces-init c = record {
  within = c.requires.within;
  small = c.requires.small;
  as_long = refl;
  goes_on = λ base own h. writes_none c.args.pages.now base own c.args.memory.now c.args.at c.args.bytes.now h;
}

pub pieces-preserved : goal.pieces-preserved
pieces-preserved c =
    let place = c.pieces.place in
    let memory = c.pieces.memory in
    let rest = c.pieces.rest.now in
    let n = c.min-n.result in
    let piece = c.split_at.result.0.now in
    let later = c.split_at.result.1.now in
    let is = c.min-n.ensures in
    let within = c.pieces.invariant.within in
    let small = c.pieces.invariant.small in
    let size : length piece ≡ n = c.split_at.ensures.front_len in
    let left = c.split_at.ensures.back_len in
    let some = c.pieces-test.true in
    let parts : rest ≡ piece ++ later =
    sym (take-append-drop n rest) ∙ ap (λ x. x ++ drop n rest) (sym c.split_at.ensures.front) ∙ ap (λ x. piece ++ x) (sym c.split_at.ensures.back) in
    let start : c.start_of-start.result + place % 4096 ≡ 4096 * slice_index c.args.pages.now (place / 4096) + place % 4096 = ap (λ k. k + place % 4096) c.start_of-start.ensures.is in
    let wrote = c.write.ensures ∙ ap (λ k. splice memory k piece) start in
    let inside = c.start_of-start.ensures.inside in
    let same = ap length c.as_slice.ensures in
    let long = c.pieces.invariant.as_long in
    record {
      within = omega (arith, is, size, left, within);
      small = omega (arith, is, size, left, small);
      as_long = ap length c.write.ensures ∙ length-splice memory piece (c.start_of-start.result + place % 4096) (omega (arith, is, size, inside, same)) ∙ long;
      goes_on = λ base own h.
          let more = writes_more c.args.pages.now base own memory c.args.at c.args.bytes.now place rest piece later within parts (omega (arith, is, size)) (omega (arith, within, some)) (c.pieces.invariant.goes_on base own h) in
          subst (λ k. WritesOn c.args.pages.now base own c.write.new.self c.args.at c.args.bytes.now (place + k) later) size
          (subst (λ m. WritesOn c.args.pages.now base own m c.args.at c.args.bytes.now (place + length piece) later) (sym wrote) more);
    }

pub returns-clause-is : goal.returns-clause-is
returns-clause-is c = λ base own h.
    let done = c.pieces-test.false in
    let none : c.pieces.rest.now ≡ [] = none_left c.pieces.rest.now (omega (arith, done)) in
    writes_all c.args.pages.now base own c.pieces.memory c.args.at c.args.bytes.now c.pieces.place c.pieces.rest.now none (c.pieces.invariant.goes_on base own h)
