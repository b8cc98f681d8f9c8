use Rattle.touch_laws.proofs.LeftLaws.{valid_end, ended_here, ended_other, valid_notice, noted_here, noted_stands, noted_apart}
use Rattle.touch_laws.proofs.touches.ends_take_one.Goals as goal

pub returns-clause-ring_valid : goal.returns-clause-ring_valid
returns-clause-ring_valid c = valid_end

pub returns-clause-ring_gone : goal.returns-clause-ring_gone
returns-clause-ring_gone c = ended_here

pub returns-clause-ring_others : goal.returns-clause-ring_others
returns-clause-ring_others c = ended_other

pub returns-clause-notice_valid : goal.returns-clause-notice_valid
returns-clause-notice_valid c = valid_notice

pub returns-clause-notice_gone : goal.returns-clause-notice_gone
returns-clause-notice_gone c = noted_here

pub returns-clause-notice_others : goal.returns-clause-notice_others
returns-clause-notice_others c = λ s id d. record { stands = noted_stands s id d; notices = noted_apart s id d }
