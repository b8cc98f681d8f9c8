use Rattle.std.proofs.Common.{sym, ap, ◌∙◌}
use Rattle.audit.specs.First.{first_in}
use Rattle.audit.specs.Rings.{notices_of}
use Rattle.audit.proofs.FirstLaws.{found_in, not_in}
use Rattle.audit.proofs.rings.notices_differ.Goals as goal

pub returns-then-is_some : goal.returns-then-is_some
returns-then-is_some c =
    found_in (notices_of c.args.threads.now c.args.machine.now) c.in-Some.dom.now c.next.new.self _ c.differ-found.result
    (sym (ap (first_in (notices_of c.args.threads.now c.args.machine.now)) c.in-Some.ensures.steps) ∙ c.loop-dom.invariant) (cc) (cc)

pub loop-dom-preserved : goal.loop-dom-preserved
loop-dom-preserved c =
    not_in (notices_of c.args.threads.now c.args.machine.now) c.in-Some.dom.now c.next.new.self _ c.differ-found.result
    (sym (ap (first_in (notices_of c.args.threads.now c.args.machine.now)) c.in-Some.ensures.steps) ∙ c.loop-dom.invariant) (cc) (cc)
