use Rattle.std.proofs.Common.{◌≡◌, ℕ, ◌+◌, List, ◌++◌, sym, ap, ◌∙◌, subst, unwrap_or}
use Rattle.argo_check.specs.Walks.{IsWalk}
use Rattle.argo_check.specs.Why.{shown_step}
use Rattle.argo_check.proofs.WhyLaws.{walk_on}
use Rattle.argo_check.proofs.why.Walk.make_step.Goals as goal

pub returns-clause-walk : goal.returns-clause-walk
returns-clause-walk c =
    let old = c.args.self.now in
    let line = c.from-line.result + 1 in
    let line_is : line ≡ unwrap_or c.done_lines.result 0 + 1 = ap (λ n. n + 1) (c.from-line.ensures ∙ c.unwrap_or.ensures) in
    let P : List ℕ → Type 0 = λ t. IsWalk c.args.place c.step.new.self (old.steps + 1) t in
    subst P (sym (c.in_ok-push_made.ensures ∙ ap (λ x. old.text ++ shown_step c.args.place (old.steps + 1) c.args.v line x) c.short_of.ensures))
    (walk_on c.args.place old.machine c.step.new.self old.steps c.args.v line c.done_lines.result old.text c.in_ok-outcome.outcome
    c.requires.walk c.done_lines.ensures line_is c.in_ok-outcome.ensures.ok)
