use Rattle.std.proofs.Common.{◌+◌, arith}
use Rattle.plain_world.proofs.OffLaws.{off_noted}
use Rattle.plain_world.proofs.mends.take_off_noted.Goals as goal

pub loop-dom-preserved : goal.loop-dom-preserved
loop-dom-preserved c =
    let i = c.loop-dom.dom-index in
    record {
      names = off_noted c.args.lists.now c.loop-dom.lists c.remove.new.self c.args.id.now c.args.noted.now i (i + 1) c.loop-dom-item.result (omega arith) (let t = c.loop-dom-test.true in omega arith) c.loop-dom-item.is c.loop-dom.invariant.names c.remove.ensures.names;
      lengths = λ d. let a = c.loop-dom.invariant.lengths d in let b = c.remove.ensures.lengths d in omega arith;
    }
