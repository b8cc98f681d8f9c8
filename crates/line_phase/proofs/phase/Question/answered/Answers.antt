use Rattle.line_phase.proofs.phase.Question.answered.Goals as goal

pub returns-in-Query : goal.returns-in-Query
returns-in-Query c = rw c.in-Query.is c.answered.ensures
