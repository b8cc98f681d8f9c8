use Rattle.std.proofs.Common.{◌≡◌, ℕ, ◌-◌, ◌*◌, ◌<◌, length, slice_index_or}
use Rattle.argo_board.specs.Board.{Tally, tally, most_steps}
use Rattle.argo_board.specs.Books.{amounts, portion}
use Rattle.argo_board.proofs.totals.fresh_passes.Given as goal

abbrev pub invariant-loop-vcpu : goal.invariant-loop-vcpu
invariant-loop-vcpu g l =
    (length l.passes.items ≡ l.vcpu)
    × ((k : ℕ) (d : Tally) → k < l.vcpu → slice_index_or l.passes.items k d ≡ tally k 0 0 0)
    × (l.books ≡ amounts (most_steps * l.vcpu) 0 0)
    × (l.kept ≡ portion (g.A.Ledger.parts - l.vcpu) 0 0 0)
