use Rattle.std.proofs.Common.{arith}
use Rattle.ring_space.proofs.RunLaws.{writing_step}
use Rattle.ring_space.proofs.runs.write_bytes.Goals as goal

pub loop-rest-preserved : goal.loop-rest-preserved
loop-rest-preserved c =
    writing_step c.args.row.now c.loop-rest.row c.write.new.self c.args.from c.loop-rest.at c.min-n.result c.args.bytes.now c.loop-rest.rest.now
    c.split_at.result.0.now c.split_at.result.1.now c.loop-rest.invariant c.requires.inside c.write.ensures.whole c.write.ensures.numbers
    c.write.ensures.bytes (omega (arith, c.min-n.ensures)) c.split_at.ensures.front c.split_at.ensures.back
