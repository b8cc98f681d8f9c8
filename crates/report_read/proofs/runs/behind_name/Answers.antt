use Rattle.std.proofs.Common.{◌≢◌, ◌≡◌, ℕ, List, ◌++◌, MatchOption, subst}
use Rattle.std.proofs.lemmas.Bool.Decides.{Decides-eqb}
use Rattle.std.proofs.lemmas.Slice.Eq.{strip_prefix_is}
use Rattle.report_read.proofs.runs.behind_name.Goals as goal

pub returns : goal.returns
returns c =
    let P : List ℕ → Type 0 = λ p. MatchOption c.strip_prefix.result ((rest : List ℕ) → c.args.text.now ≢ p ++ rest) (λ x. c.args.text.now ≡ p ++ x.now) in
    subst P c.as_slice.ensures (strip_prefix_is Decides-eqb c.args.text.now c.as_slice.result.now c.strip_prefix.result c.strip_prefix.ensures.cases)
