use Rattle.std.proofs.Common.{length, sym, ap, ◌∙◌, subst}
use Rattle.std.proofs.lemmas.List.{nil_from_length}
use Rattle.argo_model.specs.Rules.State.{State}
use Rattle.plain_world.specs.Levels.{Levels, AreLevel}
use Rattle.plain_world.proofs.LevelActs.{level_swept, level_unsignalled}
use Rattle.touch_laws.proofs.NumberLaws.{eq_same}
use Rattle.plain_world.proofs.listed_domains.ListedDomainsDomainActs.sweep.Goals as goal
use Rattle.domains.specs.ById.{id_in, next_key}

pub invariant_of-self-then-not-is_empty : goal.invariant_of-self-then-not-is_empty
invariant_of-self-then-not-is_empty g c =
    let i = c.self.inside in
    let w : Levels = record { state = i.domains; sends = i.sends; waits = i.waits } in
    let d = c.args.dom in
    let left = ap (λ x. x.state) c.in_ok-change.ensures.ok in
    let found = c.next_ring-id.ensures ∙ ap (λ (s : State). id_in d (next_key s d c.args.after)) (sym left) in
    let P : State → Type 0 = λ s. AreLevel (record { state = s; sends = i.sends; waits = c.take_off.new.lists }) in
    subst P left
    (level_swept w d c.args.generation c.args.after c.as_slice-doms.result.now c.next_ring-id.result c.take_off.new.lists
    (c.as_slice-doms.ensures.value ∙ c.in_ok-change.ensures.signals) found c.take_off.ensures.names c.self.invariant)

pub invariant_of-self-else-not-is_empty : goal.invariant_of-self-else-not-is_empty
invariant_of-self-else-not-is_empty g c =
    let i = c.self.inside in
    let w : Levels = record { state = i.domains; sends = i.sends; waits = i.waits } in
    let doms = c.as_slice-doms.result.now in
    let none = nil_from_length doms (eq_same (length doms) 0 (sym c.is_empty.ensures ∙ c.if-not-is_empty.false)) in
    let P : State → Type 0 = λ s. AreLevel (record { state = s; sends = i.sends; waits = i.waits }) in
    subst P (ap (λ x. x.state) c.in_ok-change.ensures.ok)
    (level_unsignalled w c.args.dom c.args.generation c.args.after
    (sym none ∙ c.as_slice-doms.ensures.value ∙ c.in_ok-change.ensures.signals) c.self.invariant)
