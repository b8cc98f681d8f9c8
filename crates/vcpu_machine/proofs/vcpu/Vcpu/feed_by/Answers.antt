use Rattle.std.proofs.Common.{◌≡◌, ◌<◌, ◌+◌, [], drop, length, true, sym, subst, ap, refl, ◌∙◌}
use Rattle.argo_model.specs.Programs.Program.{Next}
use Rattle.argo_model.specs.Runs.Script.{Section}
use Rattle.argo_model.specs.Programs.Asks.{CanFollow}
use Rattle.vcpu_machine.specs.Vcpu.{VcpuAt, ahead}
use Rattle.vcpu_machine.proofs.VcpuLaws.{line_here, phase_here, room_here, rest_here, has_room, ready_more, goes_on_is, goes_on_fed, over_is, over_fed}
use Rattle.vcpu_machine.proofs.vcpu.Vcpu.feed_by.Goals as goal

pub get-line-requires : goal.get-line-requires
get-line-requires c =
    let v : VcpuAt = record { part = c.self.inside.part; done = c.self.inside.done; phase = c.self.inside.phase; ready = c.self.inside.ready } in
    let ready : v.ready ≡ true = ap (λ (x : VcpuAt). x.ready) c.self.view_is ∙ c.requires.ready in
    subst (λ (x : Section). v.done < length x.lines) (sym c.part.view_is) (ready_more v c.self.invariant ready)

pub feed-requires-clause-at_phase : goal.feed-requires-clause-at_phase
feed-requires-clause-at_phase c =
    let v : VcpuAt = record { part = c.self.inside.part; done = c.self.inside.done; phase = c.self.inside.phase; ready = c.self.inside.ready } in
    let line = c.get-line.result.now in
    let rest = drop (v.done + 1) v.part.lines in
    let lines = line_here v c.part.inside.lines line (ap (λ x. x.lines) (sym c.part.view_is)) c.get-line.ensures in
    phase_here v line rest c.self.invariant lines

pub feed-requires-clause-can : goal.feed-requires-clause-can
feed-requires-clause-can c =
    let v : VcpuAt = record { part = c.self.inside.part; done = c.self.inside.done; phase = c.self.inside.phase; ready = c.self.inside.ready } in
    let line = c.get-line.result.now in
    let rest = drop (v.done + 1) v.part.lines in
    let lines = line_here v c.part.inside.lines line (ap (λ x. x.lines) (sym c.part.view_is)) c.get-line.ensures in
    subst (λ (n : Next). CanFollow n c.args.o.now) (rest_here v line rest c.self.invariant lines [])
    (subst (λ (x : VcpuAt). CanFollow (ahead x []) c.args.o.now) (sym c.self.view_is) c.requires.can)

pub feed-requires-clause-room : goal.feed-requires-clause-room
feed-requires-clause-room c =
    let v : VcpuAt = record { part = c.self.inside.part; done = c.self.inside.done; phase = c.self.inside.phase; ready = c.self.inside.ready } in
    let line = c.get-line.result.now in
    let rest = drop (v.done + 1) v.part.lines in
    let lines = line_here v c.part.inside.lines line (ap (λ x. x.lines) (sym c.part.view_is)) c.get-line.ensures in
    let ready : v.ready ≡ true = ap (λ (x : VcpuAt). x.ready) c.self.view_is ∙ c.requires.ready in
    has_room v.ready line rest v.phase ready (room_here v line rest c.self.invariant lines)

pub invariant_of-self : goal.invariant_of-self
invariant_of-self c =
    let v : VcpuAt = record { part = c.self.inside.part; done = c.self.inside.done; phase = c.self.inside.phase; ready = c.self.inside.ready } in
    let line = c.get-line.result.now in
    let rest = drop (v.done + 1) v.part.lines in
    let lines = line_here v c.part.inside.lines line (ap (λ x. x.lines) (sym c.part.view_is)) c.get-line.ensures in
    goes_on_is v line rest c.self.invariant lines c.feed.new.phase c.in_default.ensures.at_phase c.in_default.ensures.nearer

pub returns-in_default : goal.returns-in_default
returns-in_default c =
    let v : VcpuAt = record { part = c.self.inside.part; done = c.self.inside.done; phase = c.self.inside.phase; ready = c.self.inside.ready } in
    let line = c.get-line.result.now in
    let rest = drop (v.done + 1) v.part.lines in
    let lines = line_here v c.part.inside.lines line (ap (λ x. x.lines) (sym c.part.view_is)) c.get-line.ensures in
    rw (← c.self.view_is)
    (record { fed = goes_on_fed v line rest c.self.invariant lines c.args.o.now c.feed.new.phase c.in_default.ensures.feeds c.in_default.ensures.at_phase c.in_default.ensures.nearer })

pub invariant_of-self-2 : goal.invariant_of-self-2
invariant_of-self-2 c =
    let v : VcpuAt = record { part = c.self.inside.part; done = c.self.inside.done; phase = c.self.inside.phase; ready = c.self.inside.ready } in
    let line = c.get-line.result.now in
    let rest = drop (v.done + 1) v.part.lines in
    let lines = line_here v c.part.inside.lines line (ap (λ x. x.lines) (sym c.part.view_is)) c.get-line.ensures in
    let ready : v.ready ≡ true = ap (λ (x : VcpuAt). x.ready) c.self.view_is ∙ c.requires.ready in
    over_is v line rest c.self.invariant lines c.phase_at.result (ready_more v c.self.invariant ready) c.phase_at.ensures

pub returns : goal.returns
returns c =
    let v : VcpuAt = record { part = c.self.inside.part; done = c.self.inside.done; phase = c.self.inside.phase; ready = c.self.inside.ready } in
    let line = c.get-line.result.now in
    let rest = drop (v.done + 1) v.part.lines in
    let lines = line_here v c.part.inside.lines line (ap (λ x. x.lines) (sym c.part.view_is)) c.get-line.ensures in
    rw (← c.self.view_is)
    (record { fed = over_fed v line rest c.self.invariant lines c.args.o.now c.in-Some.reply c.phase_at.result c.in-Some.ensures.feeds refl c.phase_at.ensures })
