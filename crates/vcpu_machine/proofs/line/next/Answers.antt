use Rattle.vcpu_machine.proofs.ReceivingLaws.{recv_alike}
use Rattle.vcpu_machine.proofs.line.next.Goals as goal

pub returns-in-Receiving-clause-alike : goal.returns-in-Receiving-clause-alike
returns-in-Receiving-clause-alike c =
    let under_way = rw c.in-Receiving.is at c.requires in
    rw c.in-Receiving.is (recv_alike c.args.line.now c.in-Receiving.recv c.next.new.self under_way c.next.result c.next.ensures.ok c.next.ensures.err)
