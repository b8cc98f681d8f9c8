-- The worked examples of messages that are taken, each computed.
use Rattle.std.proofs.Common.{refl}
use Rattle.std.specs.Fmt.{digits}
use Rattle.argo_model.specs.Examples.Talk.{WrappedBody, PingAndPong}

pub wrapped_body : WrappedBody
unfolding digits
wrapped_body = refl

pub ping_and_pong : PingAndPong
unfolding digits
ping_and_pong = refl
