use Rattle.argo_model.specs.Runs.Run.{run}
use Rattle.argo_model.specs.Runs.Final.{schedule_of}
use Rattle.argo_machine.specs.Machine.{script_of}
use Rattle.argo_machine.proofs.machine.Machine.go.Goals as goal

pub go-requires : goal.go-requires
go-requires g c =
    let m = c.self.inside in
    record {
      course = run (script_of m.version m.domains m.kept.vcpus) (schedule_of m.kept.runs);
      keeps = c.self.invariant;
      unfinished = rw (← c.self.view_is) at c.requires;
    }
