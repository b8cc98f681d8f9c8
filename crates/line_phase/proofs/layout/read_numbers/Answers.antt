use Rattle.std.proofs.Common.{◌*◌, sym, arith}
use Rattle.std.proofs.lemmas.List.FromFn.{map-range_with_len_more}
use Rattle.argo_base.specs.Layout.{u64_at}
use Rattle.line_phase.proofs.layout.read_numbers.Goals as goal

pub loop-i-preserved : goal.loop-i-preserved
loop-i-preserved c =
    rw (c.in_ok-push.ensures.items, c.read_u64.ensures, c.loop-i.invariant)
    (sym (map-range_with_len_more (λ k. u64_at c.args.bytes.now (8 * k)) 0 c.loop-i.i c.loop-i.i (omega arith)))
