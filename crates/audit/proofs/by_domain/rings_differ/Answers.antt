use Rattle.std.proofs.Common.{sym, ap, ◌∙◌}
use Rattle.audit.specs.First.{first_in}
use Rattle.audit.specs.Domains.{rings_of}
use Rattle.audit.proofs.FirstLaws.{found_in, not_in}
use Rattle.audit.proofs.by_domain.rings_differ.Goals as goal

pub returns-then-is_some : goal.returns-then-is_some
returns-then-is_some c =
    found_in (rings_of c.args.row c.args.threads.now c.args.machine.now) c.in-Some.key.now c.next.new.self _ c.in_ok-found.found
    (sym (ap (first_in (rings_of c.args.row c.args.threads.now c.args.machine.now)) c.in-Some.ensures.steps) ∙ c.loop-key.invariant) (cc (c.in_ok-found.ensures)) (cc)

pub loop-key-preserved : goal.loop-key-preserved
loop-key-preserved c =
    not_in (rings_of c.args.row c.args.threads.now c.args.machine.now) c.in-Some.key.now c.next.new.self _ c.in_ok-found.found
    (sym (ap (first_in (rings_of c.args.row c.args.threads.now c.args.machine.now)) c.in-Some.ensures.steps) ∙ c.loop-key.invariant) (cc (c.in_ok-found.ensures)) (cc)
