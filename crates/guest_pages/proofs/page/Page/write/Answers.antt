use Rattle.std.proofs.Common.{◌∙◌, ap, length, arith}
use Rattle.argo_base.specs.Splice.{splice}
use Rattle.argo_base.proofs.SpliceLaws.{length-splice}
use Rattle.guest_pages.proofs.page.Page.write.Goals as goal

pub invariant_of-self : goal.invariant_of-self
invariant_of-self c =
    ap length c.write.ensures
    ∙ length-splice c.self.inside.bytes c.args.bytes.now c.args.off (omega (arith, c.requires, c.self.invariant))
    ∙ c.self.invariant

pub returns-clause-bytes : goal.returns-clause-bytes
returns-clause-bytes c = c.write.ensures ∙ ap (λ p. splice p c.args.off c.args.bytes.now) c.self.view_is
