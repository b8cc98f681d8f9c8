use Rattle.std.proofs.Common.{◌≡◌, ◌/◌, IsTrue, length, Some, option_map, sym, ap, ◌∙◌, subst}
use Rattle.std.specs.Option.{option_copied_mut}
use Rattle.std.specs.Map.{lookup}
use Rattle.std.specs.BTreeMap.{is_at}
use Rattle.argo_base.specs.Match.{key_cmp, match_of}
use Rattle.argo_model.specs.Rules.State.{Ring, Live}
use Rattle.argo_model.specs.Rules.Effects.{after}
use Rattle.argo_model.specs.Rules.RingBytes.{PagedRing, paged}
use Rattle.flat_live.specs.Memory.{stand_in}
use Rattle.flat_live.proofs.LiveLaws.{found_stands, written_stands, lifted_after, ring_written, ring_back, in_any_case}
use Rattle.argo_model.specs.Rules.Deliver.{Offer, offer_to_match, offer_to_live, offer as offer_to_ring}
use Rattle.flat_live.specs.Offers.{offered}
use Rattle.flat_live.proofs.live.LiveLiveDomain.offer.Goals as goal

pub offer-requires-clause-there : goal.offer-requires-clause-there
offer-requires-clause-there c =
    let x = c.self.inside in
    let key = c.match_key-key.result in
    let r = c.in-Some.ring.now in
    let found : lookup (is_at (key_cmp key)) x.rings.entries ≡ Some r = sym c.get_mut.ensures.value ∙ ap option_copied_mut c.in-Some.is in
    found_stands (length x.bytes / 4096) x.rings.entries key r c.self.invariant found

pub invariant_of-self-in_err-outcome : goal.invariant_of-self-in_err-outcome
invariant_of-self-in_err-outcome c =
    let x = c.self.inside in
    let key = c.match_key-key.result in
    let r = c.in-Some.ring.now in
    let new = c.offer.new.self in
    let found : lookup (is_at (key_cmp key)) x.rings.entries ≡ Some r = sym c.get_mut.ensures.value ∙ ap option_copied_mut c.in-Some.is in
    subst (λ n. IsTrue (stand_in (n / 4096) (c.get_mut.follows.lender new).entries)) (sym c.in_err-outcome.ensures.length)
    (subst (λ rs. IsTrue (stand_in (length x.bytes / 4096) rs)) (sym (c.get_mut.follows.holds new).0)
    (written_stands (length x.bytes / 4096) x.rings.entries key r new c.self.invariant found c.in_err-outcome.ensures.pages))

pub invariant_of-self-2 : goal.invariant_of-self-2
invariant_of-self-2 c =
    let x = c.self.inside in
    let key = c.match_key-key.result in
    let r = c.in-Some.ring.now in
    let new = c.offer.new.self in
    let found : lookup (is_at (key_cmp key)) x.rings.entries ≡ Some r = sym c.get_mut.ensures.value ∙ ap option_copied_mut c.in-Some.is in
    subst (λ n. IsTrue (stand_in (n / 4096) (c.get_mut.follows.lender new).entries)) (sym c.in_ok-outcome.ensures.length)
    (subst (λ rs. IsTrue (stand_in (length x.bytes / 4096) rs)) (sym (c.get_mut.follows.holds new).0)
    (written_stands (length x.bytes / 4096) x.rings.entries key r new c.self.invariant found c.in_ok-outcome.ensures.pages))

pub returns-in_err-outcome-clause-err : goal.returns-in_err-outcome-clause-err
returns-in_err-outcome-clause-err c =
    let i = c.self.inside in
    let x : Live = record { bytes = i.bytes; flag = i.flag; next_serial = i.next_serial; rings = i.rings.entries } in
    let key = c.match_key-key.result in
    let r = c.in-Some.ring.now in
    let new = c.offer.new.self in
    let found : lookup (is_at (key_cmp key)) x.rings ≡ Some r = sym c.get_mut.ensures.value ∙ ap option_copied_mut c.in-Some.is in
    in_any_case c.from_residual.result
    (ring_back x key r new c.offer.new.memory _ found (c.get_mut.follows.holds new).0 c.in_err-outcome.ensures.err_ring c.in_err-outcome.ensures.err_memory ∙ c.self.view_is)

pub returns-clause-left : goal.returns-clause-left
returns-clause-left c =
    let i = c.self.inside in
    let x : Live = record { bytes = i.bytes; flag = i.flag; next_serial = i.next_serial; rings = i.rings.entries } in
    let o = c.args.sent.now in
    let to = c.args.to in
    let key = c.match_key-key.result in
    let r = c.in-Some.ring.now in
    let new = c.offer.new.self in
    let found : lookup (is_at (key_cmp key)) x.rings ≡ Some r = sym c.get_mut.ensures.value ∙ ap option_copied_mut c.in-Some.is in
    let there = found_stands (length x.bytes / 4096) x.rings key r c.self.invariant found in
    let p = paged x.bytes r in
    let q : PagedRing = offered x.bytes r to o in
    let met : match_of x.rings c.args.to_port o.sender ≡ Some (key, r) =
    ap (λ (o : Offer). match_of x.rings c.args.to_port o.sender) (sym c.sent.view_is) ∙ c.match_key-key.ensures ∙ ap (option_map (λ (r : Ring). (key, r))) found in
    ring_written x key r new c.offer.new.memory q _ (c.get_mut.follows.holds new).0 (c.in_ok-outcome.ensures.ring to) c.in_ok-outcome.ensures.pages (c.in_ok-outcome.ensures.memory to)
    ∙ lifted_after x key r (offer_to_ring p to o) found there
    ∙ ap (λ m. after x (offer_to_match x to o m)) (sym met)
    ∙ ap (λ (x : Live). after x (offer_to_live to c.args.to_port o x)) c.self.view_is
