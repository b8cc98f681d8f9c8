use Rattle.std.proofs.Common.{◌≡◌, take}
use Rattle.argo_model.specs.Rules.RingBytes.{ring_bytes}
use Rattle.flat_live.proofs.final_rings.slots_of.Given as goal

abbrev pub invariant-loop-page : goal.invariant-loop-page
invariant-loop-page l = l.bytes ≡ ring_bytes l.memory (take l.page-index l.pages)
