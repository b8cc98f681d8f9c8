use Rattle.std.proofs.Common.{◌<◌, ◌-◌, arith}
use Rattle.argo_board.proofs.BoardLaws.{board-more}
use Rattle.argo_board.proofs.board.Board.append.Goals as goal

pub invariant_of-self : goal.invariant_of-self
invariant_of-self g c =
    let own : c.args.e.vcpu < g.A.Ledger.parts - 1 = omega (arith, c.requires.own, c.count.ensures.vcpu) in
    rw (c.append.ensures)
    (board-more g.A.Ledger.parts c.self.inside.journal.entries c.args.e c.self.inside.flags c.apply.new.self c.self.inside.books c.count.new.books c.self.inside.kept
    c.self.invariant (own, c.requires.outcome) c.apply.ensures c.count.ensures.room c.count.ensures.sends c.count.ensures.loads)
