use Rattle.std.proofs.Common.{◌∙◌, subst}
use Rattle.argo_base.specs.Splice.{splice}
use Rattle.flat_live.specs.Memory.{IsLaid}
use Rattle.flat_live.proofs.memory.write_tx.Goals as goal

pub returns-clause-is : goal.returns-clause-is
returns-clause-is c = λ base own h.
    subst (λ b. IsLaid c.args.pages.now base (splice own 4 b) c.write_at.new.memory) (c.as_slice.ensures ∙ c.to_le_bytes.ensures) (c.write_at.ensures.is base own h)
