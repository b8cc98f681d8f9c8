use Rattle.std.proofs.Common.{◌+◌, ◌-◌, take, drop, ap, ◌∙◌, subst}
use Rattle.argo_base.specs.Splice.{splice}
use Rattle.flat_live.specs.Memory.{IsLaid}
use Rattle.flat_live.proofs.LaidLaws.{take-min, drop-min}
use Rattle.flat_live.proofs.memory.write_slots.Goals as goal

pub returns-clause-is : goal.returns-clause-is
returns-clause-is c = λ base own h.
    let bytes = c.args.bytes.now in
    let n = c.args.len - c.args.at in
    let first = c.split_at.ensures.front ∙ ap (λ k. take k bytes) c.min.ensures ∙ take-min n bytes in
    let rest = c.split_at.ensures.back ∙ ap (λ k. drop k bytes) c.min.ensures ∙ drop-min n bytes in
    subst (λ x. IsLaid c.args.pages.now base x c.write_at-2.new.memory)
    (ap (λ f. splice (splice own (64 + c.args.at) f) 64 c.split_at.result.1.now) first ∙ ap (splice (splice own (64 + c.args.at) (take n bytes)) 64) rest)
    (c.write_at-2.ensures.is base (splice own (64 + c.args.at) c.split_at.result.0.now) (c.write_at.ensures.is base own h))
