use Rattle.std.proofs.Common.{sym, ap, ◌∙◌}
use Rattle.std.specs.Option.{option_copied_mut}
use Rattle.argo_model.specs.Rules.State.{Live}
use Rattle.argo_model.specs.Rules.Effects.{after}
use Rattle.argo_model.specs.Rules.Sweep.{sweep_found, next_ring, sweep_ring}
use Rattle.ring_core.specs.Held.{paged}
use Rattle.paged_live.specs.Parts.{Parts, seen}
use Rattle.paged_live.proofs.PartsLaws.{found_value, paged_seen, changed_parts, changed_after, unchanged_seen, in_any_case}
use Rattle.paged_live.proofs.SweepLaws.{next_none, next_is, next_met}
use Rattle.paged_live.proofs.acts.LiveLiveDomain.sweep.Goals as goal

pub returns-in_default-clause-outcome : goal.returns-in_default-clause-outcome
returns-in_default-clause-outcome c =
    let i = c.self.inside in
    let x : Parts = record { private = i.private; homes = i.homes.items; flag = i.flag; next_serial = i.next_serial; rows = i.rings } in
    let none = next_none x c.self.invariant c.args.after c.in_default.ensures.none in
    c.quiet.ensures.outcome
    ∙ ap (λ m. (sweep_found (seen x) m).outcome) (sym none)
    ∙ ap (λ (l : Live). (sweep_found l (next_ring c.args.after l.rings)).outcome) c.self.view_is

pub returns-in_default-clause-signals : goal.returns-in_default-clause-signals
returns-in_default-clause-signals c =
    let i = c.self.inside in
    let x : Parts = record { private = i.private; homes = i.homes.items; flag = i.flag; next_serial = i.next_serial; rows = i.rings } in
    let none = next_none x c.self.invariant c.args.after c.in_default.ensures.none in
    c.quiet.ensures.signals
    ∙ ap (λ m. (sweep_found (seen x) m).signals) (sym none)
    ∙ ap (λ (l : Live). (sweep_found l (next_ring c.args.after l.rings)).signals) c.self.view_is

pub returns-in_default-clause-left : goal.returns-in_default-clause-left
returns-in_default-clause-left c =
    let i = c.self.inside in
    let x : Parts = record { private = i.private; homes = i.homes.items; flag = i.flag; next_serial = i.next_serial; rows = i.rings } in
    let none = next_none x c.self.invariant c.args.after c.in_default.ensures.none in
    sym c.self.view_is
    ∙ ap (λ m. after (seen x) (sweep_found (seen x) m)) (sym none)
    ∙ ap (λ (l : Live). after l (sweep_found l (next_ring c.args.after l.rings))) c.self.view_is

pub invariant_of-self-in_err-signals : goal.invariant_of-self-in_err-signals
invariant_of-self-in_err-signals c =
    let i = c.self.inside in
    let x : Parts = record { private = i.private; homes = i.homes.items; flag = i.flag; next_serial = i.next_serial; rows = i.rings } in
    let row = c.in-Some.row.now in
    let a = c.in-Some-find_exact_mut.ring.now in
    let f = found_value x.rows row.key a (sym c.find_exact_mut.ensures.value ∙ ap option_copied_mut c.in-Some-find_exact_mut.is) in
    changed_parts x c.self.invariant row.key a c.sweep_ring.new.ring f c.in_err-signals.ensures.still

pub returns-in_err-signals-clause-err : goal.returns-in_err-signals-clause-err
returns-in_err-signals-clause-err c =
    let i = c.self.inside in
    let x : Parts = record { private = i.private; homes = i.homes.items; flag = i.flag; next_serial = i.next_serial; rows = i.rings } in
    let row = c.in-Some.row.now in
    let a = c.in-Some-find_exact_mut.ring.now in
    let f = found_value x.rows row.key a (sym c.find_exact_mut.ensures.value ∙ ap option_copied_mut c.in-Some-find_exact_mut.is) in
    in_any_case c.from_residual.result
    (unchanged_seen x c.self.invariant row.key a c.sweep_ring.new.ring f c.in_err-signals.ensures.still (λ serial. ap (paged serial) c.in_err-signals.ensures.err) ∙ c.self.view_is)

pub invariant_of-self-2 : goal.invariant_of-self-2
invariant_of-self-2 c =
    let i = c.self.inside in
    let x : Parts = record { private = i.private; homes = i.homes.items; flag = i.flag; next_serial = i.next_serial; rows = i.rings } in
    let row = c.in-Some.row.now in
    let a = c.in-Some-find_exact_mut.ring.now in
    let f = found_value x.rows row.key a (sym c.find_exact_mut.ensures.value ∙ ap option_copied_mut c.in-Some-find_exact_mut.is) in
    changed_parts x c.self.invariant row.key a c.sweep_ring.new.ring f c.in_ok-signals.ensures.still

pub returns-clause-outcome : goal.returns-clause-outcome
returns-clause-outcome c =
    let i = c.self.inside in
    let x : Parts = record { private = i.private; homes = i.homes.items; flag = i.flag; next_serial = i.next_serial; rows = i.rings } in
    let row = c.in-Some.row.now in
    let met = next_is x c.self.invariant c.args.after row c.in-Some.ensures.some in
    ap (λ m. (sweep_found (seen x) m).outcome) (sym met)
    ∙ ap (λ (l : Live). (sweep_found l (next_ring c.args.after l.rings)).outcome) c.self.view_is

pub returns-clause-signals : goal.returns-clause-signals
returns-clause-signals c =
    let i = c.self.inside in
    let x : Parts = record { private = i.private; homes = i.homes.items; flag = i.flag; next_serial = i.next_serial; rows = i.rings } in
    let row = c.in-Some.row.now in
    let a = c.in-Some-find_exact_mut.ring.now in
    let f = found_value x.rows row.key a (sym c.find_exact_mut.ensures.value ∙ ap option_copied_mut c.in-Some-find_exact_mut.is) in
    let met = next_met x c.self.invariant c.args.after row c.in-Some.ensures.some a f in
    c.in_ok-signals.ensures.signals f.serial
    ∙ ap (λ p. (sweep_ring p).signals) (sym (paged_seen x c.self.invariant row.key a f))
    ∙ ap (λ m. (sweep_found (seen x) m).signals) (sym met)
    ∙ ap (λ (l : Live). (sweep_found l (next_ring c.args.after l.rings)).signals) c.self.view_is

pub returns-clause-left : goal.returns-clause-left
returns-clause-left c =
    let i = c.self.inside in
    let x : Parts = record { private = i.private; homes = i.homes.items; flag = i.flag; next_serial = i.next_serial; rows = i.rings } in
    let row = c.in-Some.row.now in
    let a = c.in-Some-find_exact_mut.ring.now in
    let f = found_value x.rows row.key a (sym c.find_exact_mut.ensures.value ∙ ap option_copied_mut c.in-Some-find_exact_mut.is) in
    let met = next_met x c.self.invariant c.args.after row c.in-Some.ensures.some a f in
    changed_after x c.self.invariant row.key a c.sweep_ring.new.ring f c.in_ok-signals.ensures.still sweep_ring c.in_ok-signals.ensures.left
    ∙ ap (λ m. after (seen x) (sweep_found (seen x) m)) (sym met)
    ∙ ap (λ (l : Live). after l (sweep_found l (next_ring c.args.after l.rings))) c.self.view_is
