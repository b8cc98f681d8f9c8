use Rattle.std.proofs.Common.{arith}
use Rattle.guest_lib.proofs.FetchLaws.{put_ended}
use Rattle.guest_lib.proofs.EndLaws.{missed}
use Rattle.guest_lib.proofs.stage.Stage.ended_by.Goals as goal

pub returns-in-Word : goal.returns-in-Word
returns-in-Word c =
    let ends = put_ended c.args.ring.page c.in-Word.word c.in-Word.message c.args.outcome.now c.taken.result c.taken.ensures.ends in
    rw c.in-Word.is (record { rest = ends; ready = c.taken.ensures.short; nearer = omega arith })

pub returns : goal.returns
returns c =
    missed c.args.ring c.args.self c.requires.ring c.requires.ready c.args.outcome.now c.missed_by.result c.missed_by.ensures.ends
    (λ word m is. absurd (c.in_default.not-Word word m is)) c.missed_by.ensures.short c.requires.can
