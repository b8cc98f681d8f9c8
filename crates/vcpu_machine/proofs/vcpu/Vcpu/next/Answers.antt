use Rattle.std.proofs.Common.{◌+◌, [], ◌∷◌, drop, true, IsTrue, sym, subst, ap, ◌∙◌}
use Rattle.std.proofs.lemmas.Bool.{false≢true}
use Rattle.argo_model.specs.Programs.Program.{Next}
use Rattle.line_phase.specs.Phase.{takes_none}
use Rattle.vcpu_machine.specs.Vcpu.{VcpuAt}
use Rattle.vcpu_machine.proofs.VcpuLaws.{line_here, phase_here, own_here, room_here, rest_here, room_kept, fit_for, goes_on_alike, alike_is}
use Rattle.vcpu_machine.proofs.vcpu.Vcpu.next.Goals as goal

pub next-requires : goal.next-requires
next-requires c =
    let v : VcpuAt = record { part = c.self.inside.part; done = c.self.inside.done; phase = c.self.inside.phase; ready = c.self.inside.ready } in
    let line = c.get-line.result.now in
    let rest = drop (v.done + 1) v.part.lines in
    let lines = line_here v c.part.inside.lines line (ap (λ x. x.lines) (sym c.part.view_is)) c.get-line.ensures in
    phase_here v line rest c.self.invariant lines

pub invariant_of-self : goal.invariant_of-self
invariant_of-self c =
    let v : VcpuAt = record { part = c.self.inside.part; done = c.self.inside.done; phase = c.self.inside.phase; ready = c.self.inside.ready } in
    let line = c.get-line.result.now in
    let rest = drop (v.done + 1) v.part.lines in
    let lines = line_here v c.part.inside.lines line (ap (λ x. x.lines) (sym c.part.view_is)) c.get-line.ensures in
    alike_is v line rest c.self.invariant lines c.next.new.phase v.ready c.next.ensures.alike
    (room_kept v.ready (line ∷ rest) v.phase c.next.new.phase c.next.ensures.keeps (room_here v line rest c.self.invariant lines))

pub returns-in_err-action-clause-given : goal.returns-in_err-action-clause-given
returns-in_err-action-clause-given c =
    let v : VcpuAt = record { part = c.self.inside.part; done = c.self.inside.done; phase = c.self.inside.phase; ready = c.self.inside.ready } in
    let line = c.get-line.result.now in
    let rest = drop (v.done + 1) v.part.lines in
    let lines = line_here v c.part.inside.lines line (ap (λ x. x.lines) (sym c.part.view_is)) c.get-line.ensures in
    rw (← c.self.view_is) (λ h. absurd (false≢true (c.in_err-action.ensures.given (subst (λ (n : Next). IsTrue (takes_none n)) (rest_here v line rest c.self.invariant lines []) h))))

pub returns-in_err-action-clause-same : goal.returns-in_err-action-clause-same
returns-in_err-action-clause-same c =
    let v : VcpuAt = record { part = c.self.inside.part; done = c.self.inside.done; phase = c.self.inside.phase; ready = c.self.inside.ready } in
    let line = c.get-line.result.now in
    let rest = drop (v.done + 1) v.part.lines in
    let lines = line_here v c.part.inside.lines line (ap (λ x. x.lines) (sym c.part.view_is)) c.get-line.ensures in
    rw (← c.self.view_is) (goes_on_alike v line rest c.self.invariant lines c.next.new.phase v.ready c.next.ensures.alike)

pub invariant_of-self-2 : goal.invariant_of-self-2
invariant_of-self-2 c =
    let v : VcpuAt = record { part = c.self.inside.part; done = c.self.inside.done; phase = c.self.inside.phase; ready = c.self.inside.ready } in
    let line = c.get-line.result.now in
    let rest = drop (v.done + 1) v.part.lines in
    let lines = line_here v c.part.inside.lines line (ap (λ x. x.lines) (sym c.part.view_is)) c.get-line.ensures in
    alike_is v line rest c.self.invariant lines c.next.new.phase true c.next.ensures.alike c.in_ok-action.ensures.room

pub returns-clause-action : goal.returns-clause-action
returns-clause-action c =
    let v : VcpuAt = record { part = c.self.inside.part; done = c.self.inside.done; phase = c.self.inside.phase; ready = c.self.inside.ready } in
    let line = c.get-line.result.now in
    let rest = drop (v.done + 1) v.part.lines in
    let lines = line_here v c.part.inside.lines line (ap (λ x. x.lines) (sym c.part.view_is)) c.get-line.ensures in
    rw (← c.self.view_is) (rest_here v line rest c.self.invariant lines [] ∙ c.in_ok-action.ensures.action)

pub returns-clause-fit : goal.returns-clause-fit
returns-clause-fit c =
    let v : VcpuAt = record { part = c.self.inside.part; done = c.self.inside.done; phase = c.self.inside.phase; ready = c.self.inside.ready } in
    let line = c.get-line.result.now in
    let rest = drop (v.done + 1) v.part.lines in
    let lines = line_here v c.part.inside.lines line (ap (λ x. x.lines) (sym c.part.view_is)) c.get-line.ensures in
    rw (← c.self.view_is)
    (fit_for v.part.actor line v.phase c.in_ok-action.action (own_here v line rest c.self.invariant lines) c.in_ok-action.ensures.action c.in_ok-action.ensures.fit)

pub returns-clause-same : goal.returns-clause-same
returns-clause-same c =
    let v : VcpuAt = record { part = c.self.inside.part; done = c.self.inside.done; phase = c.self.inside.phase; ready = c.self.inside.ready } in
    let line = c.get-line.result.now in
    let rest = drop (v.done + 1) v.part.lines in
    let lines = line_here v c.part.inside.lines line (ap (λ x. x.lines) (sym c.part.view_is)) c.get-line.ensures in
    rw (← c.self.view_is) (goes_on_alike v line rest c.self.invariant lines c.next.new.phase true c.next.ensures.alike)
