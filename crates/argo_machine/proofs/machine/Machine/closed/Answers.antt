use Rattle.std.proofs.Common.{◌≡◌, ◌<◌, ◌-◌, ◌^◌, length, map, sum_by, sym, ap, ◌∙◌, subst}
use Rattle.std.specs.List.{range_with_len}
use Rattle.argo_model.specs.Runs.Final.{schedule_of}
use Rattle.argo_model.specs.Runs.Run.{run}
use Rattle.argo_machine.specs.Kept.{KeptAt}
use Rattle.argo_machine.specs.Machine.{script_of}
use Rattle.argo_machine.specs.Replies.{heard_among}
use Rattle.argo_machine.proofs.MachineLaws.{few_in_all}
use Rattle.argo_machine.proofs.StandLaws.{all_stand-length}
use Rattle.argo_machine.proofs.ReplyLaws.{heard_all-kept}
use Rattle.argo_machine.proofs.machine.Machine.closed.Goals as goal

pub closed-requires : goal.closed-requires
closed-requires g c =
    let m = c.self.inside in
    let kept = m.kept in
    let Few : KeptAt → Type 0 = λ k. sum_by (λ t. t.steps) k.world.totals < 2 ^ 32 - 1 in
    subst Few (sym c.kept.view_is) (few_in_all kept.vcpus kept.world kept.runs kept.done kept.reply_steps
    (run (script_of m.version m.domains kept.vcpus) (schedule_of kept.runs)) c.self.invariant)

pub returns-clause-heard : goal.returns-clause-heard
returns-clause-heard g c =
    let m = c.self.inside in
    let kept = m.kept in
    let course = run (script_of m.version m.domains kept.vcpus) (schedule_of kept.runs) in
    let n : c.len-sections.result ≡ length kept.vcpus = c.len-sections.ensures ∙ c.kept.inside.vcpus.ok.0 ∙ ap (λ k. length k.vcpus) c.kept.view_is in
    rw (← c.self.view_is)
    (c.in_ok-heard.ensures
    ∙ ap (λ ds. map (heard_among ds c.as_slice-2.result.now) (range_with_len 0 c.len-sections.result)) (c.as_slice.ensures.value ∙ ap (λ k. k.done) c.kept.view_is)
    ∙ ap (λ ns. map (heard_among kept.done ns) (range_with_len 0 c.len-sections.result)) (c.as_slice-2.ensures.value ∙ ap (λ k. k.reply_steps) c.kept.view_is)
    ∙ ap (λ k. map (heard_among kept.done kept.reply_steps) (range_with_len 0 k)) n
    ∙ heard_all-kept (length kept.vcpus) kept.done kept.reply_steps course
    (all_stand-length kept.vcpus course.sections c.self.invariant.stand) c.self.invariant.replies_are)
