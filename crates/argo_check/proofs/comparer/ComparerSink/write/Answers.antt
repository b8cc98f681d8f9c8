use Rattle.std.proofs.Common.{arith, sym, ◌∙◌}
use Rattle.argo_check.proofs.CompareLaws.{told_more, told_other, other_differs}
use Rattle.argo_check.proofs.comparer.ComparerSink.write.Goals as goal

pub returns-then-count-piece-clause-told : goal.returns-then-count-piece-clause-told
returns-then-count-piece-clause-told c =
    told_more c.args.self.now.report.now c.args.piece.now c.split_at.result.1.now c.args.self.now.same c.same_bytes-count.result c.args.self.now.other
    c.if-is_some.ensures c.split_at.ensures.back c.same_bytes-count.ensures.same

pub returns-clause-told : goal.returns-clause-told
returns-clause-told c =
    told_other c.args.self.now.report.now c.args.piece.now c.split_at.result.1.now c.args.self.now.same c.same_bytes-count.result 0 c.args.self.now.other
    c.if-is_some.ensures c.split_at.ensures.back c.same_bytes-count.ensures.same (omega (arith, c.same_bytes-count.ensures.within.1, c.if-count-piece.false))

pub invariant_of-self-2-clause-differs : goal.invariant_of-self-2-clause-differs
invariant_of-self-2-clause-differs c = λ byte is here.
    other_differs c.args.self.now.report.now c.args.piece.now c.split_at.result.1.now c.args.self.now.same c.same_bytes-count.result 0
    c.split_at.ensures.back (omega (arith, c.same_bytes-count.ensures.within.1, c.if-count-piece.false)) c.same_bytes-count.ensures.stops (here ∙ sym is)
