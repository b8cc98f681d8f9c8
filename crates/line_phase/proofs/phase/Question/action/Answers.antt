use Rattle.std.proofs.Common.{◌≡◌, ◌*◌, length, ap, ◌∙◌}
use Rattle.std.proofs.lemmas.List.FromFn.{length-map-range_with_len}
use Rattle.argo_base.specs.Layout.{u64_at}
use Rattle.line_phase.proofs.FitLaws.{fit_register}
use Rattle.line_phase.proofs.phase.Question.action.Goals as goal

pub returns-in_ok-pages-in-Register-clause-fit : goal.returns-in_ok-pages-in-Register-clause-fit
returns-in_ok-pages-in-Register-clause-fit c =
    let asked = rw c.in-Register.is at c.requires in
    let enough : length c.in_ok-pages-in-Register.pages ≡ c.page_count.result =
    ap length c.in_ok-pages-in-Register.ensures ∙ length-map-range_with_len (λ i. u64_at c.as_slice.result.now (8 * i)) 0 c.page_count.result in
    rw c.on.ensures (fit_register c.in-Register.ring.len c.in_ok-pages-in-Register.pages asked.0 (enough ∙ c.page_count.ensures))
