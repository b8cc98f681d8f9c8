-- The worked examples of domains that end and begin anew, each computed.
use Rattle.std.proofs.Common.{refl}
use Rattle.std.specs.Fmt.{digits}
use Rattle.argo_model.specs.Examples.Ends.{DestroyedBetweenGatherAndDelivery, ResetAndCreate}

pub destroyed_between_gather_and_delivery : DestroyedBetweenGatherAndDelivery
unfolding digits
destroyed_between_gather_and_delivery = refl

pub reset_and_create : ResetAndCreate
unfolding digits
reset_and_create = refl
