use Rattle.state_laws.proofs.Courses as courses
use Rattle.state_laws.proofs.valid.acts_keep.Goals as goal

pub returns : goal.returns
returns c = courses.valid_fit
