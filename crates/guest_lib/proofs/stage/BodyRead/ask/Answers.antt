use Rattle.guest_lib.proofs.FetchLaws.{fetch_next}
use Rattle.guest_lib.proofs.stage.BodyRead.ask.Goals as goal

pub returns-clause-does : goal.returns-clause-does
returns-clause-does c = λ ring end. fetch_next c.args.self.now.slots c.in-Some.piece c.args.self.now.got.items _ _ c.in-Some.ensures.first
