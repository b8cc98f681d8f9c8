-- The worked example of a domain's own memory, computed.
use Rattle.std.proofs.Common.{refl}
use Rattle.std.specs.Fmt.{digits}
use Rattle.argo_model.specs.Examples.Memory.{StoreAcrossPages}

pub store_across_pages : StoreAcrossPages
unfolding digits
store_across_pages = refl
