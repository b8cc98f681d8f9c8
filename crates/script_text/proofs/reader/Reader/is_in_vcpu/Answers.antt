use Rattle.std.proofs.Common.{ap, sym, ◌∙◌}
use Rattle.script_text.specs.Reading.{is_vcpu}
use Rattle.script_text.proofs.Adding.{at_last}
use Rattle.script_text.proofs.reader.Reader.is_in_vcpu.Goals as goal

pub returns : goal.returns
returns c = c.is_vcpu.ensures ∙ ap is_vcpu (sym (at_last c.self.inside c.args.self.now c.self.view_is c.self.invariant))
