use Rattle.std.proofs.Common.{◌≡◌, ◌+◌, ◌*◌, ◌≤◌, ◌<◌, ◌^◌, List, ℕ, length}
use Rattle.flat_live.specs.Memory.{IsLaid, WritesOn}
use Rattle.flat_live.proofs.memory.write_at.Given as goal

-- what is left of the bytes makes the ring whole
abbrev pub invariant-pieces : goal.invariant-pieces
invariant-pieces l = record {
  within : l.place + length l.rest ≤ 4096 * length l.pages;
  small : l.place + length l.rest < 2 ^ 63;
  as_long : length l.memory ≡ length l.initial.memory;
  goes_on : (base own : List ℕ) → IsLaid l.pages base own l.initial.memory → WritesOn l.pages base own l.memory l.at l.bytes l.place l.rest;
}

abbrev pub decreases-pieces : goal.decreases-pieces
decreases-pieces l = length l.rest
