-- The worked example of a domain that writes over its own ring, computed.
use Rattle.std.proofs.Common.{refl}
use Rattle.std.specs.Fmt.{digits}
use Rattle.argo_model.specs.Examples.OwnSlots.{SendOutOfOwnSlots}

pub send_out_of_own_slots : SendOutOfOwnSlots
unfolding digits
send_out_of_own_slots = refl
