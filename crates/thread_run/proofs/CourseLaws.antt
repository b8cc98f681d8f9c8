-- Laws of a worker before its first step and after its last.
use Rattle.std.proofs.Common.{◌≡◌, ℕ, ◌≤◌, List, [], length, sym, ap, subst, arith}
use Rattle.argo_model.specs.declared.closed.HeardLine.{HeardLine}
use Rattle.argo_model.specs.declared.scripts.Actor.{Actor}
use Rattle.argo_model.specs.Rules.Possible.{Facts}
use Rattle.argo_model.specs.Runs.Run.{at_first_line}
use Rattle.argo_model.specs.Runs.Script.{Section}
use Rattle.argo_board.specs.Board.{tally, totals_of}
use Rattle.vcpu_machine.specs.Vcpu.{VcpuAt, Begun}
use Rattle.shared_steps.specs.Passes.{Carried, carried}
use Rattle.shared_world.specs.Whole.{IsHeardOut}
use Rattle.thread_run.specs.Worker.{MayWork, IsWork}

-- before the first step
pub begins : (f : Facts) (actors : List Actor) (v : VcpuAt) (pass : Carried) (part : Section) (room : ℕ) → MayWork f actors pass.tally.vcpu part
    → pass ≡ carried (tally pass.tally.vcpu 0 0 0) [] → Begun part v → length part.lines ≤ room → IsWork f actors v pass [] room
begins f actors v pass part room may fresh begun enough =
    let none : pass.tally.steps ≡ 0 = ap (λ (p : Carried). p.tally.steps) fresh in
    let few = begun.few in
    record {
      may = subst (λ (s : Section). MayWork f actors pass.tally.vcpu s) (sym begun.part_is) may;
      free = ap (λ (p : Carried). p.held) fresh;
      progress = at_first_line part;
      stands = begun.stands;
      done = let zero = begun.done_is in omega (arith, zero);
      few = omega (arith, none, few);
      room_is = subst (λ (s : Section). length s.lines ≤ room) (sym begun.part_is) enough;
      all = sym begun.done_is;
      rise = tt;
      within = omega arith;
      last = λ past. sym none;
    }

-- after the last
pub heard_out : (f : Facts) (actors : List Actor) (v : VcpuAt) (pass : Carried) (heard : List HeardLine) (room : ℕ) → IsWork f actors v pass heard room
    → length v.part.lines ≤ v.done → IsHeardOut v.part (totals_of pass.tally) heard
heard_out f actors v pass heard room is past =
    let all = is.all in
    let within = is.done in
    record {
      all = omega (arith, all, past, within);
      rise = is.rise;
      last = is.last past;
    }
