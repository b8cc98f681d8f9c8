-- The worked examples of messages, each computed.
use Rattle.std.proofs.Common.{refl}
use Rattle.std.specs.Fmt.{digits}
use Rattle.argo_model.specs.Examples.Messages.{SecondBodyGetsANotice}

pub second_body_gets_a_notice : SecondBodyGetsANotice
unfolding digits
second_body_gets_a_notice = refl
