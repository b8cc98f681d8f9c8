-- A write that goes round a ring's end.
use Rattle.std.specs.Prelude.{ℕ, ◌-◌, List, take, drop}
use Rattle.argo_base.specs.Splice.{splice}

-- the slots of a ring with bytes written from a place on: up to the ring's end, and the rest from place 0 on
abbrev pub written_round : ℕ → List ℕ → ℕ → List ℕ → List ℕ
written_round len slots at bytes = splice (splice slots at (take (len - at) bytes)) 0 (drop (len - at) bytes)
