use Rattle.std.proofs.Common.{sym, subst, arith}
use Rattle.std.proofs.lemmas.List.FromFn.{length-map-range_with_len}
use Rattle.argo_base.specs.Iovs.{Iov, iov_at, iovs_at}
use Rattle.line_phase.specs.Sending.{IsFirstBuffer}
use Rattle.line_phase.proofs.SendLaws.{buffer_leads}
use Rattle.line_phase.proofs.reads.Gather.buffer.Goals as goal

pub returns : goal.returns
returns c =
    let g = c.args.self in
    let v : Iov = record { hnd = c.iov.inside.hnd; len = c.iov.inside.len; pad = c.iov.inside.pad } in
    let first = subst (λ (x : Iov). IsFirstBuffer (iovs_at g.list.items g.count) g.next c.args.place x) (sym c.iov.view_is) c.requires.first in
    buffer_leads g c.over-rest.result c.args.place v c.args.got c.requires.ready first c.over-rest.ensures.pieces c.over-rest.ensures.left c.over-rest.ensures.sound c.requires.size

pub overflow_add-gather : goal.overflow_add-gather
overflow_add-gather c =
    let g = c.args.self in
    let long = length-map-range_with_len (iov_at g.list.items) 0 g.count in
    omega (arith, c.requires.first.within, long, c.requires.ready.count_within)
