use Rattle.std.proofs.Common.{◌≡◌, ℕ, ◌<◌, false, length, slice_index_or, ◌||◌, take}
use Rattle.argo_board.specs.Journal.{is_among}
use Rattle.argo_board.proofs.flags.raise.Given as goal

abbrev pub invariant-loop-dom : goal.invariant-loop-dom
invariant-loop-dom l =
    (length l.set ≡ 65536)
    × ((dom : ℕ) → dom < 65536 → slice_index_or l.set dom false ≡ (slice_index_or l.fn.set dom false || is_among dom (take l.dom-index l.doms)))
