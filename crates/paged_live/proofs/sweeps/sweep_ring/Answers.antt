use Rattle.std.proofs.Common.{◌∙◌, length, refl, ap, subst, arith}
use Rattle.argo_base.specs.Notices.{fits_now}
use Rattle.argo_model.specs.Rules.Effects.{after}
use Rattle.argo_model.specs.Rules.Sweep.{sweep_ring}
use Rattle.argo_model.specs.Rules.RingBytes.{free}
use Rattle.guest_pages.proofs.FlatLaws.{length-row_bytes}
use Rattle.ring_core.specs.Held.{paged}
use Rattle.paged_live.proofs.ActLaws.{stands_still}
use Rattle.paged_live.proofs.HomeLaws.{AreWhole}
use Rattle.paged_live.proofs.NoticeLaws.{no_more}
use Rattle.paged_live.proofs.sweeps.sweep_ring.Goals as goal

pub returns-clause-still : goal.returns-clause-still
returns-clause-still c =
    stands_still c.args.ring.now c.sweep-ended.new.self (λ p. after p (sweep_ring p)) c.sweep-ended.ensures.keeps.id c.sweep-ended.ensures.left (λ p. refl)
    (subst AreWhole c.row-2.ensures c.count-2.ensures.whole)

pub returns-in_err-doms-clause-still : goal.returns-in_err-doms-clause-still
returns-in_err-doms-clause-still c =
    record { id = refl; pages = refl; sized = length-row_bytes c.args.ring.now.row (subst AreWhole c.row.ensures c.count.ensures.whole) }

pub returns-clause-signals : goal.returns-clause-signals
returns-clause-signals c serial = c.list.ensures ∙ c.sweep-ended.ensures.signals serial

pub list-requires-clause-room : goal.list-requires-clause-room
list-requires-clause-room c =
    let ring = c.args.ring.now in
    let few = no_more (fits_now (free (paged 0 ring))) ring.notices in
    let same = ap length (c.sweep-ended.ensures.signals 0) in
    omega (arith, few, same, c.in_ok-doms.ensures.room)
