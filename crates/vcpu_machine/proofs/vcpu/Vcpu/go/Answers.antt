use Rattle.std.proofs.Common.{◌≡◌, ◌<◌, ◌+◌, ◌∷◌, drop, length, Some, slice_get, sym, subst, ap, refl, ◌∙◌}
use Rattle.vcpu_machine.specs.Vcpu.{VcpuAt, GoesOn}
use Rattle.vcpu_machine.proofs.GoingLaws.{goes_moves, goes_turn, over_turn}
use Rattle.vcpu_machine.proofs.ReceivingLaws.{on_err}
use Rattle.vcpu_machine.proofs.VcpuLaws.{line_here, phase_here, own_here, room_here, room_kept, may_go, goes_on_alike, alike_is, goes_on_is, over_is}
use Rattle.vcpu_machine.proofs.vcpu.Vcpu.go.Goals as goal

pub go-requires-clause-at_phase : goal.go-requires-clause-at_phase
go-requires-clause-at_phase g c =
    let v : VcpuAt = record { part = c.self.inside.part; done = c.self.inside.done; phase = c.self.inside.phase; ready = c.self.inside.ready } in
    let line = c.get-line.result.now in
    let rest = drop (v.done + 1) v.part.lines in
    let lines = line_here v c.part.inside.lines line (ap (λ x. x.lines) (sym c.part.view_is)) c.get-line.ensures in
    phase_here v line rest c.self.invariant lines

pub go-requires-clause-may : goal.go-requires-clause-may
go-requires-clause-may g c =
    let v : VcpuAt = record { part = c.self.inside.part; done = c.self.inside.done; phase = c.self.inside.phase; ready = c.self.inside.ready } in
    let line = c.get-line.result.now in
    let rest = drop (v.done + 1) v.part.lines in
    let lines = line_here v c.part.inside.lines line (ap (λ x. x.lines) (sym c.part.view_is)) c.get-line.ensures in
    let section : slice_get (g.A.Access.actors c.args.a.now) c.args.v ≡ Some v.part.actor = c.requires.section ∙ ap (λ (x : VcpuAt). Some x.part.actor) (sym c.self.view_is) in
    may_go (g.A.Access.actors c.args.a.now) c.args.v v.part.actor line v.phase section (own_here v line rest c.self.invariant lines) (phase_here v line rest c.self.invariant lines)

pub invariant_of-self : goal.invariant_of-self
invariant_of-self g c =
    let v : VcpuAt = record { part = c.self.inside.part; done = c.self.inside.done; phase = c.self.inside.phase; ready = c.self.inside.ready } in
    let line = c.get-line.result.now in
    let rest = drop (v.done + 1) v.part.lines in
    let lines = line_here v c.part.inside.lines line (ap (λ x. x.lines) (sym c.part.view_is)) c.get-line.ensures in
    alike_is v line rest c.self.invariant lines c.go.new.phase v.ready c.in_err-reply.ensures.err
    (room_kept v.ready (line ∷ rest) v.phase c.go.new.phase c.in_err-reply.ensures.err_room (room_here v line rest c.self.invariant lines))

pub returns-in_err-reply-clause-err : goal.returns-in_err-reply-clause-err
returns-in_err-reply-clause-err g c =
    let v : VcpuAt = record { part = c.self.inside.part; done = c.self.inside.done; phase = c.self.inside.phase; ready = c.self.inside.ready } in
    let line = c.get-line.result.now in
    let rest = drop (v.done + 1) v.part.lines in
    let lines = line_here v c.part.inside.lines line (ap (λ x. x.lines) (sym c.part.view_is)) c.get-line.ensures in
    let new : VcpuAt = record { part = v.part; done = v.done; phase = c.go.new.phase; ready = v.ready } in
    rw (← c.self.view_is) (on_err c.from_residual.result (GoesOn v new) (goes_on_alike v line rest c.self.invariant lines c.go.new.phase v.ready c.in_err-reply.ensures.err))

pub invariant_of-self-in_default : goal.invariant_of-self-in_default
invariant_of-self-in_default g c =
    let v : VcpuAt = record { part = c.self.inside.part; done = c.self.inside.done; phase = c.self.inside.phase; ready = c.self.inside.ready } in
    let line = c.get-line.result.now in
    let rest = drop (v.done + 1) v.part.lines in
    let lines = line_here v c.part.inside.lines line (ap (λ x. x.lines) (sym c.part.view_is)) c.get-line.ensures in
    let section : slice_get (g.A.Access.actors c.args.a.now) c.args.v ≡ Some v.part.actor = c.requires.section ∙ ap (λ (x : VcpuAt). Some x.part.actor) (sym c.self.view_is) in
    let more : v.done < length v.part.lines = subst (λ (x : VcpuAt). x.done < length x.part.lines) (sym c.self.view_is) c.requires.unfinished in
    let moves = goes_moves v line rest c.self.invariant lines (g.A.Access.actors c.args.a.now) c.args.v (g.A.Access.told c.args.a.now) (g.A.Access.told c.go.new.a)
    (g.A.Access.totals c.args.a.now) (g.A.Access.totals c.go.new.a) more section c.in_ok-reply.reply c.go.new.phase c.in_default.is c.in_ok-reply.ensures.ok in
    goes_on_is v line rest c.self.invariant lines c.go.new.phase moves.0 moves.1

pub returns-in_default-clause-ok : goal.returns-in_default-clause-ok
returns-in_default-clause-ok g c =
    let v : VcpuAt = record { part = c.self.inside.part; done = c.self.inside.done; phase = c.self.inside.phase; ready = c.self.inside.ready } in
    let line = c.get-line.result.now in
    let rest = drop (v.done + 1) v.part.lines in
    let lines = line_here v c.part.inside.lines line (ap (λ x. x.lines) (sym c.part.view_is)) c.get-line.ensures in
    let section : slice_get (g.A.Access.actors c.args.a.now) c.args.v ≡ Some v.part.actor = c.requires.section ∙ ap (λ (x : VcpuAt). Some x.part.actor) (sym c.self.view_is) in
    let more : v.done < length v.part.lines = subst (λ (x : VcpuAt). x.done < length x.part.lines) (sym c.self.view_is) c.requires.unfinished in
    rw (← c.self.view_is)
    (goes_turn v line rest c.self.invariant lines (g.A.Access.actors c.args.a.now) c.args.v (g.A.Access.told c.args.a.now) (g.A.Access.told c.go.new.a)
    (g.A.Access.totals c.args.a.now) (g.A.Access.totals c.go.new.a) more section c.in_ok-reply.reply c.go.new.phase c.in_default.is c.in_ok-reply.ensures.ok)

pub invariant_of-self-2 : goal.invariant_of-self-2
invariant_of-self-2 g c =
    let v : VcpuAt = record { part = c.self.inside.part; done = c.self.inside.done; phase = c.self.inside.phase; ready = c.self.inside.ready } in
    let line = c.get-line.result.now in
    let rest = drop (v.done + 1) v.part.lines in
    let lines = line_here v c.part.inside.lines line (ap (λ x. x.lines) (sym c.part.view_is)) c.get-line.ensures in
    let more : v.done < length v.part.lines = subst (λ (x : VcpuAt). x.done < length x.part.lines) (sym c.self.view_is) c.requires.unfinished in
    over_is v line rest c.self.invariant lines c.phase_at.result more c.phase_at.ensures

pub returns-clause-ok : goal.returns-clause-ok
returns-clause-ok g c =
    let v : VcpuAt = record { part = c.self.inside.part; done = c.self.inside.done; phase = c.self.inside.phase; ready = c.self.inside.ready } in
    let line = c.get-line.result.now in
    let rest = drop (v.done + 1) v.part.lines in
    let lines = line_here v c.part.inside.lines line (ap (λ x. x.lines) (sym c.part.view_is)) c.get-line.ensures in
    let section : slice_get (g.A.Access.actors c.args.a.now) c.args.v ≡ Some v.part.actor = c.requires.section ∙ ap (λ (x : VcpuAt). Some x.part.actor) (sym c.self.view_is) in
    let more : v.done < length v.part.lines = subst (λ (x : VcpuAt). x.done < length x.part.lines) (sym c.self.view_is) c.requires.unfinished in
    rw (← c.self.view_is)
    (over_turn v line rest c.self.invariant lines (g.A.Access.actors c.args.a.now) c.args.v (g.A.Access.told c.args.a.now) (g.A.Access.told c.go.new.a)
    (g.A.Access.totals c.args.a.now) (g.A.Access.totals c.go.new.a) more section c.in_ok-reply.reply c.in-Some.reply c.go.new.phase c.phase_at.result c.in-Some.is c.in_ok-reply.ensures.ok refl c.phase_at.ensures)
