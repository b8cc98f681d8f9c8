use Rattle.std.proofs.Common.{◌≡◌, ◌∙◌, sym, ap, subst, arith}
use Rattle.argo_base.specs.Iovs.{Iov, iov_at, iovs_at}
use Rattle.line_phase.specs.Sending.{IsFirstBuffer}
use Rattle.line_phase.proofs.SendLaws.{skips_more, first_here, skipped_all}
use Rattle.line_phase.proofs.send.next_buffer.Goals as goal

pub returns-then-iov-ne0 : goal.returns-then-iov-ne0
returns-then-iov-ne0 c =
    let list = c.args.list.now in
    let place = c.loop-place.place in
    let read = c.read_iov-iov.ensures in
    let len : c.iov.inside.len ≡ (iov_at list place).len = ap (λ (v : Iov). v.len) (c.iov.view_is ∙ read) in
    let some = c.if-iov-ne0.true in
    subst (λ (v : Iov). IsFirstBuffer (iovs_at list c.args.count) c.args.from place v) (sym read)
    (first_here list c.args.count c.args.from place (omega (arith, c.loop-place-test.true)) c.loop-place.invariant (omega (arith, len, some)))

pub loop-place-preserved : goal.loop-place-preserved
loop-place-preserved c =
    let list = c.args.list.now in
    let place = c.loop-place.place in
    let len : c.iov.inside.len ≡ (iov_at list place).len = ap (λ (v : Iov). v.len) (c.iov.view_is ∙ c.read_iov-iov.ensures) in
    let none = c.if-iov-ne0.false in
    skips_more list c.args.count c.args.from place (omega (arith, c.loop-place-test.true)) c.loop-place.invariant (omega (arith, len, none))

pub returns : goal.returns
returns c = skipped_all c.args.list.now c.args.count c.args.from c.loop-place.place c.loop-place.invariant (omega (arith, c.loop-place-test.false))
