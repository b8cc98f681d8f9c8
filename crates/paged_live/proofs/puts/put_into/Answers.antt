use Rattle.std.proofs.Common.{◌+◌, ◌*◌, refl, sym, ap, ◌∙◌, subst}
use Rattle.guest_pages.proofs.FlatLaws.{length-row_bytes}
use Rattle.ring_core.specs.Held.{paged}
use Rattle.ring_core.specs.Puts.{put_in}
use Rattle.paged_live.proofs.ActLaws.{stands_still, put_in_pages, put_nothing, no_bytes}
use Rattle.paged_live.proofs.HomeLaws.{AreWhole}
use Rattle.paged_live.proofs.puts.put_into.Goals as goal

pub returns-then-is_empty-clause-left : goal.returns-then-is_empty-clause-left
returns-then-is_empty-clause-left c serial =
    sym (ap (put_in (paged serial c.args.ring.now) (4096 * c.args.place + c.args.off)) (no_bytes c.args.bytes.now c.is_empty.result c.is_empty.ensures c.if-is_empty.true)
    ∙ put_nothing (paged serial c.args.ring.now) (4096 * c.args.place + c.args.off))

pub returns-then-is_empty-clause-still : goal.returns-then-is_empty-clause-still
returns-then-is_empty-clause-still c =
    record { id = refl; pages = refl; sized = length-row_bytes c.args.ring.now.row (subst AreWhole c.row.ensures c.count.ensures.whole) }

pub returns-clause-still : goal.returns-clause-still
returns-clause-still c =
    stands_still c.args.ring.now c.write.new.self (λ p. put_in p (4096 * c.args.place + c.args.off) c.args.bytes.now) c.write.ensures.keeps.id c.write.ensures.left
    (put_in_pages (4096 * c.args.place + c.args.off) c.args.bytes.now) (subst AreWhole c.row-2.ensures c.count-2.ensures.whole)
