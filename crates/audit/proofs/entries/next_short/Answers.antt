use Rattle.std.proofs.Common.{◌≡◌, sym, ◌∙◌, subst}
use Rattle.std.proofs.lemmas.Bool.{false≢true}
use Rattle.argo_model.specs.declared.short.Short.{Short}
use Rattle.audit.specs.Steps.{Next}
use Rattle.audit.proofs.StepLaws.{made_next, no_next, open_where}
use Rattle.audit.proofs.entries.next_short.Goals as goal

pub returns-then-finished : goal.returns-then-finished
returns-then-finished c = no_next c.args.machine.now c.args.v (c.finished.ensures.0 c.if-finished.true)

pub step-requires : goal.step-requires
step-requires c = open_where _ (λ none. false≢true (sym c.if-finished.false ∙ c.finished.ensures.1 none))

pub returns : goal.returns
returns c =
    let P : Short → Type 0 = λ s. Next c.args.machine.now c.args.v s c.step.new.self in
    subst P (sym c.short_of.ensures) (made_next _ _ _ _ c.in_ok-outcome.ensures.ok)
