use Rattle.line_phase.specs.declared.phase.Phase.{Phase}
use Rattle.line_phase.specs.declared.phase.Phase.TheVariants.{Reading, Writing, Asking}
use Rattle.line_phase.specs.Reader.{after_read, after_fault}
use Rattle.vcpu_machine.proofs.GoingLaws.{moves_stay, moves_by}
use Rattle.line_phase.proofs.MovedLaws.{over_by, reads_more, reads_on, puts_on}
use Rattle.line_phase.proofs.RangeLaws.{collect-gives}
use Rattle.vcpu_machine.proofs.line.feed.Goals as goal

pub fetch_moved-moved-requires-clause-first : goal.fetch_moved-moved-requires-clause-first
fetch_moved-moved-requires-clause-first c =
    let r = c.in-Reading in
    let at = rw r.is at c.requires.at_phase in
    collect-gives r.rest r.got.items (after_fault r.reader) (after_read r.reader) c.args.outcome.now at.some at.sound (rw r.is at c.requires.can)

pub returns-in-More : goal.returns-in-More
returns-in-More c =
    let r = c.in-Reading in
    let m = c.fetch_moved-moved in
    let at = rw r.is at c.requires.at_phase in
    rw r.is
    (moves_stay c.args.line.now (Reading r.rest r.got r.reader) (Reading m.new.rest m.new.got r.reader) c.args.outcome.now
    (reads_more c.args.line.now m.result r.rest m.new.rest r.got m.new.got r.reader c.args.outcome.now c.in-More.is at m.ensures.moves m.ensures.nearer m.ensures.counted))

pub returns-in_default : goal.returns-in_default
returns-in_default c =
    let r = c.in-Reading in
    let m = c.fetch_moved-moved in
    let on = c.read_on-followed in
    let old : Phase = Reading r.rest r.got r.reader in
    let at = rw r.is at c.requires.at_phase in
    rw r.is
    (moves_by c.args.line.now old old c.settle.new.phase c.args.outcome.now on.result c.settle.result
    (reads_on c.args.line.now m.result r.rest m.new.rest r.got m.new.got.items r.reader c.args.outcome.now on.result old (over_by m.result c.in_default.not-More) at m.ensures.moves on.ensures) c.settle.ensures)

pub returns-in_default-moved : goal.returns-in_default-moved
returns-in_default-moved c =
    let w = c.in-Writing in
    let m = c.put_moved-moved in
    let on = c.put_on-followed in
    let old : Phase = Writing w.rest w.text in
    let at = rw w.is at c.requires.at_phase in
    rw w.is
    (moves_by c.args.line.now old old c.settle-in-Writing.new.phase c.args.outcome.now on.result c.settle-in-Writing.result
    (puts_on c.args.line.now m.result w.rest m.new.rest w.text c.args.outcome.now on.result old (over_by m.result c.in_default-moved.not-More) at m.ensures.moves on.ensures) c.settle-in-Writing.ensures)

pub returns-in-Asking : goal.returns-in-Asking
returns-in-Asking c =
    let old : Phase = Asking c.in-Asking.question in
    rw c.in-Asking.is
    (moves_by c.args.line.now old old c.settle-in-Asking.new.phase c.args.outcome.now c.asked-followed.result c.settle-in-Asking.result
    (c.asked-followed.ensures c.args.line.now old) c.settle-in-Asking.ensures)

pub returns-in-Looking : goal.returns-in-Looking
returns-in-Looking c = rw c.in-Looking.is (c.looked.ensures c.args.line.now)

pub returns-in-Receiving : goal.returns-in-Receiving
returns-in-Receiving c = rw c.in-Receiving.is (c.received.ensures c.args.line.now)
