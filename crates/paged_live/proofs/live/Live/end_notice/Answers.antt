use Rattle.std.proofs.Common.{◌∙◌, sym, ap}
use Rattle.std.specs.Option.{option_copied_mut}
use Rattle.live_domain.specs.Keyed.{without_notice}
use Rattle.argo_model.specs.Rules.State.{Live}
use Rattle.paged_live.specs.Parts.{Parts}
use Rattle.paged_live.proofs.PartsLaws.{found_value, changed_parts}
use Rattle.paged_live.proofs.NoticeLaws.{notice_seen, no_notice, no_value}
use Rattle.std.proofs.lemmas.Option.{none-some}
use Rattle.paged_live.proofs.EndLaws.{none_seen}
use Rattle.paged_live.proofs.ForgetLaws.{notice_gone}
use Rattle.paged_live.proofs.live.Live.end_notice.Goals as goal

pub returns-in_default-clause-left : goal.returns-in_default-clause-left
returns-in_default-clause-left c =
    let i = c.self.inside in
    let x : Parts = record { private = i.private; homes = i.homes.items; flag = i.flag; next_serial = i.next_serial; rows = i.rings } in
    no_notice x c.args.key c.args.dom (no_value x.rows c.args.key (sym c.find_exact_mut.ensures.value ∙ ap option_copied_mut c.in_default.is))
    ∙ ap (λ (l : Live). without_notice l c.args.key c.args.dom) c.self.view_is

pub invariant_of-self-2 : goal.invariant_of-self-2
invariant_of-self-2 c =
    let i = c.self.inside in
    let x : Parts = record { private = i.private; homes = i.homes.items; flag = i.flag; next_serial = i.next_serial; rows = i.rings } in
    let a = c.in-Some.ring.now in
    let f = found_value x.rows c.args.key a (sym c.find_exact_mut.ensures.value ∙ ap option_copied_mut c.in-Some.is) in
    changed_parts x c.self.invariant c.args.key a c.forget.new.ring f c.forget.ensures.still

pub returns-clause-left : goal.returns-clause-left
returns-clause-left c =
    let i = c.self.inside in
    let x : Parts = record { private = i.private; homes = i.homes.items; flag = i.flag; next_serial = i.next_serial; rows = i.rings } in
    let a = c.in-Some.ring.now in
    let f = found_value x.rows c.args.key a (sym c.find_exact_mut.ensures.value ∙ ap option_copied_mut c.in-Some.is) in
    notice_seen x c.self.invariant c.args.key a c.forget.new.ring f c.args.dom c.forget.ensures.still c.forget.ensures.left
    ∙ ap (λ (l : Live). without_notice l c.args.key c.args.dom) c.self.view_is

pub returns-in_default-clause-gone : goal.returns-in_default-clause-gone
returns-in_default-clause-gone c r is =
    let i = c.self.inside in
    let x : Parts = record { private = i.private; homes = i.homes.items; flag = i.flag; next_serial = i.next_serial; rows = i.rings } in
    let none = none_seen x c.args.key (no_value x.rows c.args.key (sym c.find_exact_mut.ensures.value ∙ ap option_copied_mut c.in_default.is)) in
    absurd (none-some r (sym none ∙ is))

pub returns-clause-gone : goal.returns-clause-gone
returns-clause-gone c =
    let i = c.self.inside in
    let x : Parts = record { private = i.private; homes = i.homes.items; flag = i.flag; next_serial = i.next_serial; rows = i.rings } in
    let a = c.in-Some.ring.now in
    let f = found_value x.rows c.args.key a (sym c.find_exact_mut.ensures.value ∙ ap option_copied_mut c.in-Some.is) in
    notice_gone x c.args.key a c.forget.new.ring f c.args.dom c.forget.ensures.gone
