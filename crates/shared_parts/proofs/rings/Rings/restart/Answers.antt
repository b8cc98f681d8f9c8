use Rattle.std.proofs.Common.{Some, is_some, sym, ap, ◌∙◌, true≢false}
use Rattle.std.specs.Option.{option_copied_mut}
use Rattle.std.proofs.lemmas.Bool.{false≢true}
use Rattle.guest_pages.specs.Rows.{numbers_of}
use Rattle.ring_core.specs.Restarts.{given_back, lent_bytes}
use Rattle.shared_parts.specs.Homes.{cleared}
use Rattle.shared_parts.specs.Rings.{Registry, has_ring, with_homes}
use Rattle.shared_parts.proofs.RestartLaws.{on_ok, noted, restarted_ok, restarted_err}
use Rattle.shared_parts.proofs.SeatLaws.{no_empty, key_value, taken-value, shown_value}
use Rattle.shared_parts.proofs.rings.Rings.restart.Goals as goal

pub returns-in_default-clause-kept : goal.returns-in_default-clause-kept
returns-in_default-clause-kept c = λ there.
    absurd (false≢true
    (sym (ap is_some (ap option_copied_mut c.in_default.is))
    ∙ key_value c.self.inside.table c.args.key (option_copied_mut c.find_exact_mut.result) c.find_exact_mut.ensures.value
    ∙ ap (λ (r : Registry). has_ring r c.args.key) c.self.view_is ∙ there))

pub invariant_of-self-in_default-seat : goal.invariant_of-self-in_default-seat
invariant_of-self-in_default-seat c = absurd (no_empty c.self.inside.table c.args.key c.in-Some.seat.now c.self.invariant c.in-Some.ensures.value c.in_default-seat.is)

pub returns-in_default-seat-clause-kept : goal.returns-in_default-seat-clause-kept
returns-in_default-seat-clause-kept c = absurd (no_empty c.self.inside.table c.args.key c.in-Some.seat.now c.self.invariant c.in-Some.ensures.value c.in_default-seat.is)

pub returns-in_default-seat-clause-none : goal.returns-in_default-seat-clause-none
returns-in_default-seat-clause-none c = absurd (no_empty c.self.inside.table c.args.key c.in-Some.seat.now c.self.invariant c.in-Some.ensures.value c.in_default-seat.is)

pub invariant_of-self-2 : goal.invariant_of-self-2
invariant_of-self-2 c = taken-value c.self.inside.table c.args.key _ c.self.invariant

pub returns-clause-ok : goal.returns-clause-ok
returns-clause-ok c =
    let old = c.args.self.now in
    let left = shown_value c.self.inside.table c.args.key _ c.self.inside.next_serial c.settle_row.new.homes.items
    ∙ ap (λ (r : Registry). with_homes r c.settle_row.new.homes.items) c.self.view_is
    ∙ noted old c.args.key c.get_mut-ring.result.now c.restart-ended.new.self c.row.result.now c.row-2.result.now c.clear.new.homes.items c.settle_row.new.homes.items
    c.row.ensures (c.clear.ensures ∙ ap (λ (r : Registry). cleared (numbers_of c.row.result.now) r.homes) c.self.view_is) c.row-2.ensures c.settle_row.ensures in
    restarted_ok old c.args.key c.get_mut-ring.result.now c.restart-ended.new.self c.args.len c.args.numbers.now
    (lent_bytes (given_back c.args.private.now c.get_mut-ring.result.now) c.args.numbers.now) c.args.private.now c.restart-ended.new.private
    c.restart-ended.result _ left c.restart-ended.ensures.ended c.restart-ended.ensures.left c.restart-ended.ensures.lent c.restart-ended.ensures.could

pub returns-clause-stood : goal.returns-clause-stood
returns-clause-stood c = on_ok _ c.restart-ended.result (sym (key_value c.self.inside.table c.args.key (Some c.in-Some.seat.now) c.in-Some.ensures.value ∙ ap (λ (r : Registry). has_ring r c.args.key) c.self.view_is))

pub returns-clause-kept : goal.returns-clause-kept
returns-clause-kept c =
    let old = c.args.self.now in
    let left = shown_value c.self.inside.table c.args.key _ c.self.inside.next_serial c.settle_row.new.homes.items
    ∙ ap (λ (r : Registry). with_homes r c.settle_row.new.homes.items) c.self.view_is
    ∙ noted old c.args.key c.get_mut-ring.result.now c.restart-ended.new.self c.row.result.now c.row-2.result.now c.clear.new.homes.items c.settle_row.new.homes.items
    c.row.ensures (c.clear.ensures ∙ ap (λ (r : Registry). cleared (numbers_of c.row.result.now) r.homes) c.self.view_is) c.row-2.ensures c.settle_row.ensures in
    restarted_err old c.args.key c.get_mut-ring.result.now c.restart-ended.new.self c.restart-ended.result _ left c.restart-ended.ensures.err

pub returns-clause-none : goal.returns-clause-none
returns-clause-none c = λ none. absurd (true≢false ((key_value c.self.inside.table c.args.key (Some c.in-Some.seat.now) c.in-Some.ensures.value ∙ ap (λ (r : Registry). has_ring r c.args.key) c.self.view_is) ∙ none))
