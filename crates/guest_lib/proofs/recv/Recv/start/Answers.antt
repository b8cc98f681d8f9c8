use Rattle.std.proofs.Common.{arith}
use Rattle.guest_lib.specs.declared.stage.Stage.TheVariants.{Rx}
use Rattle.guest_lib.proofs.UnderWayLaws.{stage_does}
use Rattle.guest_lib.proofs.recv.Recv.start.Goals as goal

pub returns-clause-under_way : goal.returns-clause-under_way
returns-clause-under_way c = record {
  left = omega arith;
  next = stage_does (record { page = c.args.page; len = c.args.len }) Rx c.requires tt (omega arith);
}
