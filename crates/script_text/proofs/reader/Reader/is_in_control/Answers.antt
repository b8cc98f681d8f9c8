use Rattle.std.proofs.Common.{ap, sym, ◌∙◌}
use Rattle.script_text.specs.Reading.{is_controller}
use Rattle.script_text.proofs.Adding.{at_last}
use Rattle.script_text.proofs.reader.Reader.is_in_control.Goals as goal

pub returns : goal.returns
returns c = c.is_controller.ensures ∙ ap is_controller (sym (at_last c.self.inside c.args.self.now c.self.view_is c.self.invariant))
