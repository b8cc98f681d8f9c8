use Rattle.std.proofs.Common.{◌≡◌, refl, sym, ap, ◌∙◌, subst}
use Rattle.std.specs.List.Sorted.{IsStrictlyIncreasing}
use Rattle.argo_base.specs.Notices.{withdrawn, doms_of}
use Rattle.argo_model.specs.Rules.RingBytes.{PagedRing}
use Rattle.paged_live.proofs.ForgetLaws.{withdrawn_twice}
use Rattle.paged_live.specs.Ends.{forgotten}
use Rattle.paged_live.proofs.ActLaws.{stands_still}
use Rattle.paged_live.proofs.HomeLaws.{AreWhole}
use Rattle.paged_live.proofs.ends.forget.Goals as goal

pub returns-clause-still : goal.returns-clause-still
returns-clause-still c =
    stands_still c.args.ring.now c.forget.new.self (forgotten c.args.dom) c.forget.ensures.keeps.id c.forget.ensures.left (λ p. refl)
    (subst AreWhole c.row.ensures c.count.ensures.whole)

pub returns-clause-gone : goal.returns-clause-gone
returns-clause-gone c =
    let notices = c.args.ring.now.notices in
    let d = c.args.dom in
    let left : c.forget.new.self.notices ≡ withdrawn notices d = ap (λ (p : PagedRing). p.ring.notices) (c.forget.ensures.left 0) in
    ap (λ ns. withdrawn ns d) left
    ∙ withdrawn_twice notices d (subst (λ ns. IsStrictlyIncreasing (doms_of ns)) c.notices.ensures c.as_slice.ensures.rising)
    ∙ sym left
