use Rattle.line_phase.specs.Ranges.{last_of}
use Rattle.line_phase.proofs.RangeLaws.{put_all-refused}
use Rattle.line_phase.proofs.ranges.put_moved.Goals as goal

pub returns-in_default : goal.returns-in_default
returns-in_default c = record {
  moves = λ bytes failed k os long. put_all-refused c.args.rest.now c.args.outcome.now (last_of c.args.rest.now.left bytes) failed k os c.requires.some c.requires.sound c.in_default.not-Done c.in_default.not-Gone;
  nearer = tt;
}
