use Rattle.std.proofs.Common.{[], ap, ◌∙◌}
use Rattle.argo_model.specs.declared.action.Action.TheVariants.{Put}
use Rattle.argo_model.specs.declared.action.Outcome.{Outcome}
use Rattle.argo_model.specs.Programs.Asks.{Do}
use Rattle.argo_model.specs.Programs.Recv.{say_found}
use Rattle.guest_lib.specs.declared.ask.Ask.{Ask}
use Rattle.guest_lib.specs.Receiving.{ahead, action_of}
use Rattle.vcpu_machine.specs.Going.{ReceiveMoves, ReceivesAlike}
use Rattle.vcpu_machine.proofs.ReceivingLaws.{still_under_way, receives_alike, moves_from, on_err}
use Rattle.vcpu_machine.proofs.SeenLaws.{seen_performs}
use Rattle.vcpu_machine.proofs.receiving.receive.Goals as goal

pub heard-reply-requires-clause-under_way : goal.heard-reply-requires-clause-under_way
heard-reply-requires-clause-under_way g c = still_under_way c.args.recv.now c.ask.new.self c.in_ok-piece.ensures.ok c.requires.under_way

pub received-requires-clause-under_way : goal.received-requires-clause-under_way
received-requires-clause-under_way g c = still_under_way c.args.recv.now c.ask.new.self c.in_ok-piece.ensures.ok c.requires.under_way

pub returns-in_err-outcome-in-Put-clause-err : goal.returns-in_err-outcome-in-Put-clause-err
returns-in_err-outcome-in-Put-clause-err g c =
    on_err c.from_residual-in_err-outcome-in-Put.result (ReceivesAlike c.args.recv.now c.ask.new.self)
    (receives_alike c.args.recv.now c.ask.new.self c.in_ok-piece.ensures.ok c.requires.under_way)

pub returns-in-Fetch-clause-ok : goal.returns-in-Fetch-clause-ok
returns-in-Fetch-clause-ok g c =
    let r = c.args.recv.now in
    let P : Outcome → Type 0 = λ o. ReceiveMoves c.ask.new.self o c.heard-reply.result c.heard-reply.new.recv in
    let does = c.in_ok-piece.ensures.does say_found ∙ ap (λ (a : Ask). Do (action_of a)) c.in-Fetch.is in
    let came = seen_performs (g.A.Access.actors c.args.a.now) c.args.v c.in-Fetch.piece (g.A.Access.told c.args.a.now) (g.A.Access.told c.count.new.self)
    (g.A.Access.totals c.args.a.now) (g.A.Access.totals c.count.new.self) (ahead say_found r []) does c.count.ensures.told_stays c.count.ensures.counts
    P c.seen.result c.seen.ensures.bytes c.seen.ensures.unseen c.heard-reply.ensures.bytes c.heard-reply.ensures.unseen in
    (came.0, came.1, moves_from r c.ask.new.self c.in_ok-piece.ensures.ok came.0 c.heard-reply.result c.heard-reply.new.recv came.2)

pub returns-in_ok-outcome-in-Put-clause-ok : goal.returns-in_ok-outcome-in-Put-clause-ok
returns-in_ok-outcome-in-Put-clause-ok g c =
    let r = c.args.recv.now in
    let o = c.in_ok-outcome-in-Put.outcome in (
      o,
      record {
        action = Put c.in-Put.page c.in-Put.off c.in-Put.word;
        does = c.in_ok-piece.ensures.does say_found ∙ ap (λ (a : Ask). Do (action_of a)) c.in-Put.is;
        acts = c.in_ok-outcome-in-Put.ensures.acts;
        counts_are = c.in_ok-outcome-in-Put.ensures.counts;
      },
      moves_from r c.ask.new.self c.in_ok-piece.ensures.ok o c.received.result c.received.new.recv c.received.ensures,
    )
