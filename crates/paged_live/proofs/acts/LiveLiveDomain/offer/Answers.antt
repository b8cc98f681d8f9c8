use Rattle.std.proofs.Common.{sym, ap, ◌∙◌}
use Rattle.std.specs.Option.{option_copied_mut}
use Rattle.argo_base.specs.Match.{match_of}
use Rattle.argo_model.specs.Rules.State.{Live}
use Rattle.argo_model.specs.Rules.Effects.{after}
use Rattle.argo_model.specs.Rules.Deliver.{Offer, offer, offer_to_match, offer_to_live}
use Rattle.paged_live.specs.Parts.{Parts, seen}
use Rattle.paged_live.proofs.PartsLaws.{found_value, paged_seen, changed_parts, changed_after, unchanged_seen, match_is, match_none, in_any_case}
use Rattle.paged_live.proofs.acts.LiveLiveDomain.offer.Goals as goal

pub returns-in_default-clause-outcome : goal.returns-in_default-clause-outcome
returns-in_default-clause-outcome c =
    let i = c.self.inside in
    let o = c.args.sent.now in
    let x : Parts = record { private = i.private; homes = i.homes.items; flag = i.flag; next_serial = i.next_serial; rows = i.rings } in
    let none = match_none x.rows c.args.to_port o.sender c.match_key-key.result (c.match_key-key.ensures ∙ ap (λ (o : Offer). match_of x.rows c.args.to_port o.sender) c.sent.view_is) (sym c.find_exact_mut.ensures.value ∙ ap option_copied_mut c.in_default.is) in
    ap (λ m. (offer_to_match (seen x) c.args._to o m).outcome) (sym none)
    ∙ ap (λ (l : Live). (offer_to_live c.args._to c.args.to_port o l).outcome) c.self.view_is

pub returns-in_default-clause-left : goal.returns-in_default-clause-left
returns-in_default-clause-left c =
    let i = c.self.inside in
    let o = c.args.sent.now in
    let x : Parts = record { private = i.private; homes = i.homes.items; flag = i.flag; next_serial = i.next_serial; rows = i.rings } in
    let none = match_none x.rows c.args.to_port o.sender c.match_key-key.result (c.match_key-key.ensures ∙ ap (λ (o : Offer). match_of x.rows c.args.to_port o.sender) c.sent.view_is) (sym c.find_exact_mut.ensures.value ∙ ap option_copied_mut c.in_default.is) in
    ap (λ m. after (seen x) (offer_to_match (seen x) c.args._to o m)) (sym none)
    ∙ ap (λ (l : Live). after l (offer_to_live c.args._to c.args.to_port o l)) c.self.view_is

pub invariant_of-self-in_err-outcome : goal.invariant_of-self-in_err-outcome
invariant_of-self-in_err-outcome c =
    let i = c.self.inside in
    let x : Parts = record { private = i.private; homes = i.homes.items; flag = i.flag; next_serial = i.next_serial; rows = i.rings } in
    let a = c.in-Some.ring.now in
    let f = found_value x.rows c.match_key-key.result a (sym c.find_exact_mut.ensures.value ∙ ap option_copied_mut c.in-Some.is) in
    changed_parts x c.self.invariant c.match_key-key.result a c.offer_to.new.ring f c.in_err-outcome.ensures.still

pub returns-in_err-outcome-clause-err : goal.returns-in_err-outcome-clause-err
returns-in_err-outcome-clause-err c =
    let i = c.self.inside in
    let x : Parts = record { private = i.private; homes = i.homes.items; flag = i.flag; next_serial = i.next_serial; rows = i.rings } in
    let a = c.in-Some.ring.now in
    let f = found_value x.rows c.match_key-key.result a (sym c.find_exact_mut.ensures.value ∙ ap option_copied_mut c.in-Some.is) in
    in_any_case c.from_residual.result
    (unchanged_seen x c.self.invariant c.match_key-key.result a c.offer_to.new.ring f c.in_err-outcome.ensures.still c.in_err-outcome.ensures.err ∙ c.self.view_is)

pub invariant_of-self-2 : goal.invariant_of-self-2
invariant_of-self-2 c =
    let i = c.self.inside in
    let x : Parts = record { private = i.private; homes = i.homes.items; flag = i.flag; next_serial = i.next_serial; rows = i.rings } in
    let a = c.in-Some.ring.now in
    let f = found_value x.rows c.match_key-key.result a (sym c.find_exact_mut.ensures.value ∙ ap option_copied_mut c.in-Some.is) in
    changed_parts x c.self.invariant c.match_key-key.result a c.offer_to.new.ring f c.in_ok-outcome.ensures.still

pub returns-clause-outcome : goal.returns-clause-outcome
returns-clause-outcome c =
    let i = c.self.inside in
    let o = c.args.sent.now in
    let key = c.match_key-key.result in
    let x : Parts = record { private = i.private; homes = i.homes.items; flag = i.flag; next_serial = i.next_serial; rows = i.rings } in
    let a = c.in-Some.ring.now in
    let f = found_value x.rows key a (sym c.find_exact_mut.ensures.value ∙ ap option_copied_mut c.in-Some.is) in
    let met = match_is x.rows c.args.to_port o.sender key a f (c.match_key-key.ensures ∙ ap (λ (o : Offer). match_of x.rows c.args.to_port o.sender) c.sent.view_is) in
    c.in_ok-outcome.ensures.outcome c.args._to f.serial
    ∙ ap (λ p. (offer p c.args._to o).outcome) (sym (paged_seen x c.self.invariant key a f))
    ∙ ap (λ m. (offer_to_match (seen x) c.args._to o m).outcome) (sym met)
    ∙ ap (λ (l : Live). (offer_to_live c.args._to c.args.to_port o l).outcome) c.self.view_is

pub returns-clause-left : goal.returns-clause-left
returns-clause-left c =
    let i = c.self.inside in
    let o = c.args.sent.now in
    let key = c.match_key-key.result in
    let x : Parts = record { private = i.private; homes = i.homes.items; flag = i.flag; next_serial = i.next_serial; rows = i.rings } in
    let a = c.in-Some.ring.now in
    let f = found_value x.rows key a (sym c.find_exact_mut.ensures.value ∙ ap option_copied_mut c.in-Some.is) in
    let met = match_is x.rows c.args.to_port o.sender key a f (c.match_key-key.ensures ∙ ap (λ (o : Offer). match_of x.rows c.args.to_port o.sender) c.sent.view_is) in
    changed_after x c.self.invariant key a c.offer_to.new.ring f c.in_ok-outcome.ensures.still (λ p. offer p c.args._to o) (c.in_ok-outcome.ensures.left c.args._to)
    ∙ ap (λ m. after (seen x) (offer_to_match (seen x) c.args._to o m)) (sym met)
    ∙ ap (λ (l : Live). after l (offer_to_live c.args._to c.args.to_port o l)) c.self.view_is
