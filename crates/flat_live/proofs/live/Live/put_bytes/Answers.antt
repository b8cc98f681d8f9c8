use Rattle.std.proofs.Common.{◌≡◌, ◌+◌, ◌/◌, ◌∙◌, IsTrue, length, ap, sym, subst, arith}
use Rattle.argo_base.proofs.SpliceLaws.{length-splice}
use Rattle.flat_live.specs.Memory.{stand_in}
use Rattle.flat_live.proofs.LiveLaws.{put_stands}
use Rattle.flat_live.proofs.live.Live.put_bytes.Goals as goal

pub invariant_of-self : goal.invariant_of-self
invariant_of-self c =
    let x = c.self.inside in
    let inside = c.start_of.ensures.inside in
    let memory = ap length c.as_slice-memory.ensures in
    let fit = c.requires in
    let long : length c.write.new.self ≡ length x.bytes =
    ap length c.write.ensures ∙ length-splice x.bytes c.args.bytes.now (c.start_of.result + c.args.off) (omega (arith, inside, memory, fit)) in
    subst (λ n. IsTrue (stand_in (n / 4096) c.put_into_rings.new.rings.entries)) (sym long)
    (subst (λ rs. IsTrue (stand_in (length x.bytes / 4096) rs)) (sym c.put_into_rings.ensures)
    (put_stands (length x.bytes / 4096) c.as_slice-memory.result.now c.args.page c.args.off c.args.bytes.now x.rings.entries c.self.invariant))
