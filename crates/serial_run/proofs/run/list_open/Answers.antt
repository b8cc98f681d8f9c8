use Rattle.std.proofs.Common.{ap, ◌∙◌, arith, refl, length, vec_capacity}
use Rattle.argo_model.specs.Runs.Run.{run, is_open}
use Rattle.serial_run.proofs.PickLaws.{filter-few, listed-more, listed-same, open-where}
use Rattle.serial_run.proofs.run.list_open.Goals.{then-not-finished, else-not-finished}
use Rattle.serial_run.proofs.run.list_open.Goals as goal

pub push_reserved-requires : goal.push_reserved-requires
push_reserved-requires c =
    let n = c.loop-v.vcpus.ok.0 ∙ ap length c.loop-v.invariant.0 in
    omega (arith, n, filter-few (is_open (run c.args.machine.now.script c.args.machine.now.schedule)) 0 c.loop-v.v, c.loop-v-test.true, c.requires, c.loop-v.invariant.1)

pub loop-v-preserved : goal.loop-v-preserved
loop-v-preserved c =
    let p = is_open (run c.args.machine.now.script c.args.machine.now.schedule) in
    let xs = c.loop-v.vcpus.items in
    let ys = c.if-not-finished.vcpus.items in
    let stood = c.loop-v.invariant in
    elim c.if-not-finished.branch [
      | then-not-finished w ↦ (
        listed-more p c.loop-v.v xs ys stood.0 (open-where (p c.loop-v.v) w.if-not-finished.ensures.1) (ap (λ v. v.items) w.vcpus-is ∙ w.push_reserved.ensures.items),
        ap vec_capacity w.vcpus-is ∙ w.push_reserved.ensures.capacity ∙ stood.1,
      )
      | else-not-finished w ↦ (
        listed-same p c.loop-v.v xs ys stood.0 (w.if-not-finished.ensures.0 refl) (ap (λ v. v.items) w.vcpus-is),
        ap vec_capacity w.vcpus-is ∙ stood.1,
      )
    ]
