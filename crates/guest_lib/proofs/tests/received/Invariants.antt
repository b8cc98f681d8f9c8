use Rattle.std.proofs.Common.{◌<◌}
use Rattle.guest_lib.specs.Receiving.{left_of}
use Rattle.guest_lib.proofs.tests.received.Given as goal

-- the recv is not over
abbrev pub invariant-loop : goal.invariant-loop
invariant-loop l = 0 < left_of l.recv
