use Rattle.touch_laws.proofs.ActLaws.{own_same, create_same, deliver_notes, query_notes}
use Rattle.touch_laws.proofs.TouchLaws.{sweep_touches, registers_touches}
use Rattle.touch_laws.proofs.touches.acts_touch_little.Goals as goal

pub returns-clause-own : goal.returns-clause-own
returns-clause-own c = own_same

pub returns-clause-created : goal.returns-clause-created
returns-clause-created c = create_same

pub returns-clause-sent : goal.returns-clause-sent
returns-clause-sent c = deliver_notes

pub returns-clause-asked : goal.returns-clause-asked
returns-clause-asked c = query_notes

pub returns-clause-swept : goal.returns-clause-swept
returns-clause-swept c = sweep_touches

pub returns-clause-registered : goal.returns-clause-registered
returns-clause-registered c = registers_touches
