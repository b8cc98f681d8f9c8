use Rattle.std.proofs.Common.{◌≡◌, drop}
use Rattle.paged_live.specs.Homes.{settled}
use Rattle.paged_live.proofs.home.settle.Given as goal

abbrev pub invariant-loop-number : goal.invariant-loop-number
invariant-loop-number l =
    (l.place ≡ l.number-index) × (settled l.key 0 l.numbers l.initial.homes ≡ settled l.key l.place (drop l.place l.numbers) l.homes)
