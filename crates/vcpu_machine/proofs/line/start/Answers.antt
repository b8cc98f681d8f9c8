use Rattle.std.proofs.Common.{length, [], sym, ap, ◌∙◌, arith}
use Rattle.argo_model.specs.declared.line.Line.TheVariants.{Load}
use Rattle.argo_model.specs.declared.reply.Reply.TheVariants.{Hex, Fault}
use Rattle.argo_model.specs.Programs.Asks.{Say, fetch_all}
use Rattle.argo_model.specs.Programs.Recv.{say_found}
use Rattle.vcpu_machine.proofs.LineLaws.{short_store, short_load}
use Rattle.line_phase.proofs.RangeLaws.{few_pieces}
use Rattle.vcpu_machine.proofs.line.start.Goals as goal

pub returns-in-Store-clause-few : goal.returns-in-Store-clause-few
returns-in-Store-clause-few c =
    let few = few_pieces c.in-Store.at (length c.in-Store.bytes) (short_store c.args.actor c.in-Store.at c.in-Store.bytes (rw c.in-Store.is at c.requires)) in
    rw (c.in-Store.is, c.over.ensures.pieces, c.len.ensures) (omega arith)

pub returns-in-Load-clause-few : goal.returns-in-Load-clause-few
returns-in-Load-clause-few c =
    let few = few_pieces c.in-Load.at c.in-Load.n (short_load c.args.actor c.in-Load.at c.in-Load.n (rw c.in-Load.is at c.requires)) in
    rw (c.in-Load.is, c.reading.ensures.left, c.over-in-Load.ensures.pieces) (omega arith)

pub returns-in-Load-clause-at_phase : goal.returns-in-Load-clause-at_phase
returns-in-Load-clause-at_phase c = c.reading.ensures.ready c.args.line.now

pub returns-in-Load-clause-starts : goal.returns-in-Load-clause-starts
returns-in-Load-clause-starts c = λ os.
    rw c.in-Load.is
    (ap (λ ps. fetch_all ps [] (Say Fault) (λ bs os. Say (Hex bs)) os) (sym c.over-in-Load.ensures.pieces)
    ∙ c.reading.ensures.rest (Load c.in-Load.at c.in-Load.n) os)

pub returns-in-Op-clause-at_phase : goal.returns-in-Op-clause-at_phase
returns-in-Op-clause-at_phase c = c.start.ensures.ready c.args.line.now

pub returns-in-Recv-clause-starts : goal.returns-in-Recv-clause-starts
returns-in-Recv-clause-starts c = λ os. rw c.in-Recv.is (sym (c.start-in-Recv.ensures.starts say_found os))
