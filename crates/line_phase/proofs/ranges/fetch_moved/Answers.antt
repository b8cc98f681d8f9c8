use Rattle.line_phase.proofs.RangeLaws.{collect-refused}
use Rattle.line_phase.proofs.ranges.fetch_moved.Goals as goal

pub returns-in_default : goal.returns-in_default
returns-in_default c = record {
  moves = λ failed k os. collect-refused c.args.rest.now c.args.outcome.now c.args.got.now.items failed k os c.requires.some c.requires.sound c.in_default.not-Bytes c.in_default.not-Gone;
  nearer = tt;
  counted = tt;
}
