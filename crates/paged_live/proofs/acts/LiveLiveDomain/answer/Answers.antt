use Rattle.std.proofs.Common.{sym, ap, ◌∙◌}
use Rattle.std.specs.Option.{option_copied_mut}
use Rattle.argo_base.specs.Match.{key_in, match_of}
use Rattle.argo_model.specs.declared.action.Outcome.TheVariants.{Answer as Answered}
use Rattle.argo_model.specs.Rules.State.{Live}
use Rattle.argo_model.specs.Rules.Effects.{after, lifted}
use Rattle.argo_model.specs.Rules.Query.{query_match, query_ring, answer_of}
use Rattle.argo_model.specs.Rules.RingBytes.{set_paged, paged as paged_in}
use Rattle.ring_core.specs.Held.{paged}
use Rattle.ring_table.specs.Rows.{held}
use Rattle.paged_live.specs.Parts.{Parts, seen}
use Rattle.paged_live.proofs.PartsLaws.{found_value, paged_seen, changed_parts, changed_after, match_is, match_none}
use Rattle.paged_live.proofs.acts.LiveLiveDomain.answer.Goals as goal

pub returns-in_default-clause-outcome : goal.returns-in_default-clause-outcome
returns-in_default-clause-outcome c =
    let i = c.self.inside in
    let x : Parts = record { private = i.private; homes = i.homes.items; flag = i.flag; next_serial = i.next_serial; rows = i.rings } in
    let none = match_none x.rows c.args.port c.args.sender c.match_key-key.result c.match_key-key.ensures (sym c.find_exact_mut.ensures.value ∙ ap option_copied_mut c.in_default.is) in
    ap (λ m. (query_match (seen x) c.args.sender c.args.need m).outcome) (sym none)
    ∙ ap (λ (l : Live). (query_match l c.args.sender c.args.need (match_of l.rings c.args.port c.args.sender)).outcome) c.self.view_is

pub returns-in_default-clause-left : goal.returns-in_default-clause-left
returns-in_default-clause-left c =
    let i = c.self.inside in
    let x : Parts = record { private = i.private; homes = i.homes.items; flag = i.flag; next_serial = i.next_serial; rows = i.rings } in
    let none = match_none x.rows c.args.port c.args.sender c.match_key-key.result c.match_key-key.ensures (sym c.find_exact_mut.ensures.value ∙ ap option_copied_mut c.in_default.is) in
    ap (λ m. after (seen x) (query_match (seen x) c.args.sender c.args.need m)) (sym none)
    ∙ ap (λ (l : Live). after l (query_match l c.args.sender c.args.need (match_of l.rings c.args.port c.args.sender))) c.self.view_is

pub invariant_of-self-2 : goal.invariant_of-self-2
invariant_of-self-2 c =
    let i = c.self.inside in
    let x : Parts = record { private = i.private; homes = i.homes.items; flag = i.flag; next_serial = i.next_serial; rows = i.rings } in
    let key = c.match_key-key.result in
    let a = c.in-Some.ring.now in
    let f = found_value x.rows key a (sym c.find_exact_mut.ensures.value ∙ ap option_copied_mut c.in-Some.is) in
    changed_parts x c.self.invariant key a c.ask-answer.new.ring f c.ask-answer.ensures.still

pub returns-clause-outcome : goal.returns-clause-outcome
returns-clause-outcome c =
    let i = c.self.inside in
    let x : Parts = record { private = i.private; homes = i.homes.items; flag = i.flag; next_serial = i.next_serial; rows = i.rings } in
    let key = c.match_key-key.result in
    let d = c.args.sender in
    let need = c.args.need in
    let a = c.in-Some.ring.now in
    let f = found_value x.rows key a (sym c.find_exact_mut.ensures.value ∙ ap option_copied_mut c.in-Some.is) in
    let met = match_is x.rows c.args.port d key a f c.match_key-key.ensures in
    let named = c.self.invariant.named.key key (held f.serial a) f.is in
    ap Answered
    (c.ask-answer.ensures.answer f.serial
    ∙ ap (λ k. answer_of (paged f.serial a) k d need) named
    ∙ ap (λ p. answer_of p key d need) (sym (paged_seen x c.self.invariant key a f)))
    ∙ ap (λ m. (query_match (seen x) d need m).outcome) (sym met)
    ∙ ap (λ (l : Live). (query_match l d need (match_of l.rings c.args.port d)).outcome) c.self.view_is

pub returns-clause-left : goal.returns-clause-left
returns-clause-left c =
    let i = c.self.inside in
    let x : Parts = record { private = i.private; homes = i.homes.items; flag = i.flag; next_serial = i.next_serial; rows = i.rings } in
    let key = c.match_key-key.result in
    let d = c.args.sender in
    let need = c.args.need in
    let a = c.in-Some.ring.now in
    let f = found_value x.rows key a (sym c.find_exact_mut.ensures.value ∙ ap option_copied_mut c.in-Some.is) in
    let met = match_is x.rows c.args.port d key a f c.match_key-key.ensures in
    let named = c.self.invariant.named.key key (held f.serial a) f.is in
    changed_after x c.self.invariant key a c.ask-answer.new.ring f c.ask-answer.ensures.still (λ p. query_ring p (key_in a.id) d need) c.ask-answer.ensures.left
    ∙ ap (λ k. after (seen x) (lifted (set_paged (seen x) key) (query_ring (paged_in (seen x).bytes (paged f.serial a).ring) k d need))) named
    ∙ ap (λ m. after (seen x) (query_match (seen x) d need m)) (sym met)
    ∙ ap (λ (l : Live). after l (query_match l d need (match_of l.rings c.args.port d))) c.self.view_is
