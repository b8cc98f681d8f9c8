use Rattle.std.proofs.Common.{sym, subst, length, sum_by, ◌≤◌}
use Rattle.argo_model.specs.Runs.Script.{Section, turns_of}
use Rattle.vcpu_machine.proofs.vcpu.Vcpu.new.Goals as goal

pub taking-requires-clause-lines : goal.taking-requires-clause-lines
taking-requires-clause-lines c = subst (λ (x : Section). length x.lines ≤ 8192) (sym c.in_ok-copy_of_part.ensures) c.requires.lines

pub taking-requires-clause-turns : goal.taking-requires-clause-turns
taking-requires-clause-turns c = subst (λ (x : Section). sum_by turns_of x.lines ≤ 1048576) (sym c.in_ok-copy_of_part.ensures) c.requires.turns
