use Rattle.std.proofs.Common.{sym, ap, ◌∙◌, subst}
use Rattle.std.specs.List.Sorted.{IsStrictlySortedBy}
use Rattle.std.specs.Map.{keys_of}
use Rattle.argo_base.specs.Match.{key_cmp}
use Rattle.argo_model.specs.Rules.Register.{own_ring}
use Rattle.argo_model.specs.Rules.State.{Live}
use Rattle.paged_live.specs.Forgets.{Forgot}
use Rattle.paged_live.specs.Parts.{Parts}
use Rattle.paged_live.proofs.ForgetLaws.{ring_ended, notice_ended}
use Rattle.paged_live.proofs.PutLaws.{rings_rising}
use Rattle.paged_live.proofs.live.Live.forget_on.Goals as goal

pub returns-then-eq : goal.returns-then-eq
returns-then-eq c =
    let i = c.self.inside in
    let x : Parts = record { private = i.private; homes = i.homes.items; flag = i.flag; next_serial = i.next_serial; rows = i.rings } in
    let old = c.args.self.now in
    let rising = subst (λ (l : Live). IsStrictlySortedBy key_cmp (keys_of l.rings)) c.self.view_is (rings_rising x c.self.invariant) in
    subst (λ (new : Live). Forgot c.args.dom c.args.key old new) (sym c.take_ring.ensures.left)
    (ring_ended c.args.dom c.args.key old rising (sym c.eq.ensures ∙ c.if-eq.true))

pub returns : goal.returns
returns c =
    let old = c.args.self.now in
    let key = c.args.key in
    let left = c.end_notice.ensures.left in
    subst (λ (new : Live). Forgot c.args.dom key old new) (sym left)
    (notice_ended c.args.dom key old (sym c.eq.ensures ∙ c.if-eq.false) (λ r is. c.end_notice.ensures.gone r (ap (λ (l : Live). own_ring l key) left ∙ is)))
