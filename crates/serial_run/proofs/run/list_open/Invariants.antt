use Rattle.std.proofs.Common.{◌≡◌, vec_capacity, filter}
use Rattle.std.specs.List.{range_with_len}
use Rattle.argo_model.specs.Runs.Run.{run, is_open}
use Rattle.serial_run.proofs.run.list_open.Given as goal

-- the open ones of those looked at
abbrev pub invariant-loop-v : goal.invariant-loop-v
invariant-loop-v l =
    (l.vcpus.items ≡ filter (is_open (run l.machine.script l.machine.schedule)) (range_with_len 0 l.v))
    × (vec_capacity l.vcpus ≡ vec_capacity l.fn.vcpus)
