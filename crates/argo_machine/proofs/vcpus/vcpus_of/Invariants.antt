use Rattle.std.proofs.Common.{◌≡◌, vec_capacity}
use Rattle.argo_machine.specs.Vcpus.{AreVcpusOf}
use Rattle.argo_machine.proofs.vcpus.vcpus_of.Given as goal

abbrev pub invariant-loop-part : goal.invariant-loop-part
invariant-loop-part l = AreVcpusOf l.vcpus.items l.yielded × (vec_capacity l.vcpus ≡ vec_capacity l.fn.room)
