use Rattle.std.proofs.Common.{sym, ◌∙◌}
use Rattle.argo_model.specs.Programs.Program.{await}
use Rattle.vcpu_machine.proofs.LookLaws.{looks_on, awaits_more, nearer_look}
use Rattle.vcpu_machine.proofs.looking.looked.Goals as goal

pub returns : goal.returns
returns c = λ line. record {
  feeds = λ os.
      looks_on c.args.outcome.now (await c.args.later.now) os c.in_default.not-Gone (sym c.if-is_signal.false ∙ c.is_signal.ensures)
      ∙ awaits_more c.args.later.now os c.if-later-eq0.false;
  at_phase = tt;
  nearer = nearer_look c.args.later.now c.if-later-eq0.false;
}
