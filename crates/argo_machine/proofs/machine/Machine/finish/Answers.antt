use Rattle.std.proofs.Common.{◌<◌, ◌-◌, ◌^◌, sum_by, sym, subst}
use Rattle.argo_model.specs.Runs.Run.{run}
use Rattle.argo_model.specs.Runs.Final.{schedule_of}
use Rattle.argo_machine.specs.Kept.{KeptAt}
use Rattle.argo_machine.specs.Machine.{script_of}
use Rattle.argo_machine.proofs.MachineLaws.{few_in_all}
use Rattle.argo_machine.proofs.machine.Machine.finish.Goals as goal

pub into_finals-requires : goal.into_finals-requires
into_finals-requires g c =
    let m = c.self.inside in
    let kept = m.kept in
    let Few : KeptAt → Type 0 = λ k. sum_by (λ t. t.steps) k.world.totals < 2 ^ 32 - 1 in
    subst Few (sym c.kept.view_is) (few_in_all kept.vcpus kept.world kept.runs kept.done kept.reply_steps
    (run (script_of m.version m.domains kept.vcpus) (schedule_of kept.runs)) c.self.invariant)
