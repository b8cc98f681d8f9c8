use Rattle.std.proofs.Common.{◌≡◌, ◌-◌, ◌*◌, arith}
use Rattle.guest_lib.proofs.FetchLaws.{slot_pieces-few}
use Rattle.guest_lib.proofs.slots.Slots.over.Goals as goal

pub returns-clause-few : goal.returns-clause-few
returns-clause-few c =
    let round : c.args.n - c.min-first.result ≡ c.args.n - (c.args.len - c.args.at) = omega arith in
    rw (c.pieces.ensures.cut, c.pieces-2.ensures.cut, round, c.from.ensures, c.min-first.ensures)
    (slot_pieces-few (c.from-ring.result * 4096) c.args.len c.args.at c.args.n)
