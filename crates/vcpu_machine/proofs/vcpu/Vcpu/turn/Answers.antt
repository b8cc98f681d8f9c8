use Rattle.vcpu_machine.proofs.TurnLaws.{takes_turn}
use Rattle.vcpu_machine.proofs.vcpu.Vcpu.turn.Goals as goal

pub returns-in-Ok-clause-ok : goal.returns-in-Ok-clause-ok
returns-in-Ok-clause-ok g c =
    takes_turn c.args.self.now c.next.new.self c.feed_by-reply.new.self c.in_ok-action.action c.in-Ok.outcome c.feed_by-reply.result (g.A.Access.actors c.args.a.now) c.args.v
    (g.A.Access.told c.args.a.now) (g.A.Access.told c.act.new.self)
    c.requires.unfinished c.requires.section c.in_ok-action.ensures.action c.next.ensures.same c.in-Ok.ensures.acts c.feed_by-reply.ensures.fed
