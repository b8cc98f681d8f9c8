use Rattle.state_laws.proofs.Courses as courses
use Rattle.state_laws.proofs.valid.runs_are_valid.Goals as goal

pub returns : goal.returns
returns c = courses.valid_run
