use Rattle.std.proofs.Common.{◌≡◌, None, map}
use Rattle.std.specs.List.{fold}
use Rattle.flat_live.specs.Sweeps.{numbered, nearer}
use Rattle.flat_live.proofs.matches.next_key.Given as goal

-- what is left, after the best so far, comes to what all rings come to
abbrev pub invariant-loop-key : goal.invariant-loop-key
invariant-loop-key l = fold (nearer l.after) l.best (map numbered l.key-iterator) ≡ fold (nearer l.after) None (map numbered l.rings.entries)
