use Rattle.std.proofs.Common.{◌<◌, length, rules}
use Rattle.std.specs.List.{enumerate_from}
use Rattle.std.proofs.lemmas.List.FromFn.{length-enumerate_from}
use Rattle.argo_model.specs.Runs.Report.{totals_line}
use Rattle.report_text.proofs.WroteLemmas.{Wrote-all, Wrote-one_more, Wrote-stop_in, enumerate_from-item}
use Rattle.report_text.proofs.report.write_totals.Goals as goal

pub returns-in_err-write_line : goal.returns-in_err-write_line
returns-in_err-write_line g c =
    let all = c.args.all.now in
    let below : c.loop-vcpu.vcpu < length (enumerate_from 0 all) = rw length-enumerate_from c.loop-vcpu-test.true in
    Wrote-stop_in totals_line (enumerate_from 0 all) below (enumerate_from-item all c.loop-vcpu.vcpu _ c.loop-vcpu-test.true) c.loop-vcpu.invariant
    c.from_residual.result _ c.in_err-write_line.was (search rules) c.write_line.ensures

pub loop-vcpu-preserved : goal.loop-vcpu-preserved
loop-vcpu-preserved g c =
    let all = c.args.all.now in
    let below : c.loop-vcpu.vcpu < length (enumerate_from 0 all) = rw length-enumerate_from c.loop-vcpu-test.true in
    Wrote-one_more totals_line (enumerate_from 0 all) below (enumerate_from-item all c.loop-vcpu.vcpu _ c.loop-vcpu-test.true) c.loop-vcpu.invariant
    c.in_ok-write_line.ensures

pub returns : goal.returns
returns g c =
    let all = c.args.all.now in
    Wrote-all totals_line (enumerate_from 0 all) (rw length-enumerate_from c.loop-vcpu-test.false) c.loop-vcpu.invariant
