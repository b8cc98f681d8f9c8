use Rattle.std.proofs.Common.{◌≢◌, ◌≡◌, ℕ, List, ◌++◌, MatchOption, ⊎_elim, sym, ap, ◌∙◌, subst}
use Rattle.std.proofs.lemmas.Bool.Decides.{Decides-eqb}
use Rattle.std.proofs.lemmas.Slice.Eq.{strip_prefix_is}
use Rattle.argo_model.specs.Runs.Report.{opening_line}
use Rattle.report_read.proofs.ReportLaws.{opening_one, opening_two}
use Rattle.report_read.proofs.runs.behind_opening.Goals as goal

pub returns-then-version-eq2 : goal.returns-then-version-eq2
returns-then-version-eq2 c =
    let P : List ℕ → Type 0 = λ p. MatchOption c.strip_prefix.result ((rest : List ℕ) → c.args.report.now ≢ p ++ rest) (λ x. c.args.report.now ≡ p ++ x.now) in
    subst P (c.as_slice.ensures ∙ sym opening_two ∙ ap opening_line (sym c.if-version-eq2.true))
    (strip_prefix_is Decides-eqb c.args.report.now c.as_slice.result.now c.strip_prefix.result c.strip_prefix.ensures.cases)

pub returns-else-version-eq2 : goal.returns-else-version-eq2
returns-else-version-eq2 c =
    let P : List ℕ → Type 0 = λ p. MatchOption c.strip_prefix-else-version-eq2.result ((rest : List ℕ) → c.args.report.now ≢ p ++ rest) (λ x. c.args.report.now ≡ p ++ x.now) in
    let one : c.args.version ≡ 1 = ⊎_elim (λ h. h) (λ two. absurd (c.if-version-eq2.false two)) c.requires in
    subst P (c.as_slice-else-version-eq2.ensures ∙ sym opening_one ∙ ap opening_line (sym one))
    (strip_prefix_is Decides-eqb c.args.report.now c.as_slice-else-version-eq2.result.now c.strip_prefix-else-version-eq2.result c.strip_prefix-else-version-eq2.ensures.cases)
