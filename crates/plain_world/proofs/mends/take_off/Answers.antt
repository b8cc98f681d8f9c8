use Rattle.std.proofs.Common.{◌+◌, arith}
use Rattle.plain_world.proofs.OffLaws.{off_one}
use Rattle.plain_world.proofs.mends.take_off.Goals as goal

pub loop-dom-preserved : goal.loop-dom-preserved
loop-dom-preserved c =
    let i = c.loop-dom.dom-index in
    record {
      names = off_one c.args.lists.now c.loop-dom.lists c.remove.new.self c.args.id.now c.args.doms.now i (i + 1) c.dom-item.result (omega arith) (let t = c.loop-dom-test.true in omega arith) c.dom-item.is c.loop-dom.invariant.names c.remove.ensures.names;
      lengths = λ d. let a = c.loop-dom.invariant.lengths d in let b = c.remove.ensures.lengths d in omega arith;
    }
