use Rattle.std.proofs.Common.{◌≡◌, ◌/◌, IsTrue, length, Some, option_map, refl, sym, ap, ◌∙◌, subst}
use Rattle.std.specs.Option.{option_copied_mut}
use Rattle.std.specs.Map.{lookup}
use Rattle.std.specs.BTreeMap.{is_at}
use Rattle.argo_base.specs.Match.{key_cmp, match_of}
use Rattle.argo_model.specs.Rules.State.{Ring, Live}
use Rattle.argo_model.specs.Rules.Effects.{after}
use Rattle.argo_model.specs.Rules.RingBytes.{PagedRing, paged, with_notices}
use Rattle.flat_live.specs.Memory.{are_there, stand_in}
use Rattle.flat_live.proofs.LiveLaws.{found_stands, written_stands, lifted_after, ring_written, ring_back, in_any_case}
use Rattle.flat_live.proofs.OfferLaws.{memory_kept}
use Rattle.argo_model.specs.Rules.Query.{query_match, query_ring, request}
use Rattle.flat_live.proofs.live.LiveLiveDomain.answer.Goals as goal

pub answer-requires : goal.answer-requires
answer-requires c =
    let x = c.self.inside in
    let key = c.match_key-key.result in
    let r = c.in-Some.ring.now in
    let found : lookup (is_at (key_cmp key)) x.rings.entries ≡ Some r = sym c.get_mut.ensures.value ∙ ap option_copied_mut c.in-Some.is in
    subst (λ bs. IsTrue (are_there (length bs / 4096) r.pages)) (sym c.as_slice.ensures) (found_stands (length x.bytes / 4096) x.rings.entries key r c.self.invariant found)

pub invariant_of-self-in_err-answer : goal.invariant_of-self-in_err-answer
invariant_of-self-in_err-answer c =
    let x = c.self.inside in
    let key = c.match_key-key.result in
    let r = c.in-Some.ring.now in
    let new = c.answer.new.self in
    let found : lookup (is_at (key_cmp key)) x.rings.entries ≡ Some r = sym c.get_mut.ensures.value ∙ ap option_copied_mut c.in-Some.is in
    subst (λ rs. IsTrue (stand_in (length x.bytes / 4096) rs)) (sym (c.get_mut.follows.holds new).0)
    (written_stands (length x.bytes / 4096) x.rings.entries key r new c.self.invariant found c.in_err-answer.ensures.pages)

pub invariant_of-self-2 : goal.invariant_of-self-2
invariant_of-self-2 c =
    let x = c.self.inside in
    let key = c.match_key-key.result in
    let r = c.in-Some.ring.now in
    let new = c.answer.new.self in
    let found : lookup (is_at (key_cmp key)) x.rings.entries ≡ Some r = sym c.get_mut.ensures.value ∙ ap option_copied_mut c.in-Some.is in
    subst (λ rs. IsTrue (stand_in (length x.bytes / 4096) rs)) (sym (c.get_mut.follows.holds new).0)
    (written_stands (length x.bytes / 4096) x.rings.entries key r new c.self.invariant found c.in_ok-answer.ensures.pages)

pub returns-in_err-answer-clause-err : goal.returns-in_err-answer-clause-err
returns-in_err-answer-clause-err c =
    let i = c.self.inside in
    let x : Live = record { bytes = i.bytes; flag = i.flag; next_serial = i.next_serial; rings = i.rings.entries } in
    let key = c.match_key-key.result in
    let r = c.in-Some.ring.now in
    let new = c.answer.new.self in
    let found : lookup (is_at (key_cmp key)) x.rings ≡ Some r = sym c.get_mut.ensures.value ∙ ap option_copied_mut c.in-Some.is in
    in_any_case c.from_residual.result (ring_back x key r new x.bytes _ found (c.get_mut.follows.holds new).0 c.in_err-answer.ensures.err refl ∙ c.self.view_is)

pub returns-clause-left : goal.returns-clause-left
returns-clause-left c =
    let i = c.self.inside in
    let x : Live = record { bytes = i.bytes; flag = i.flag; next_serial = i.next_serial; rings = i.rings.entries } in
    let sender = c.args.sender in
    let need = c.args.need in
    let key = c.match_key-key.result in
    let r = c.in-Some.ring.now in
    let new = c.answer.new.self in
    let found : lookup (is_at (key_cmp key)) x.rings ≡ Some r = sym c.get_mut.ensures.value ∙ ap option_copied_mut c.in-Some.is in
    let there = found_stands (length x.bytes / 4096) x.rings key r c.self.invariant found in
    let p = paged x.bytes r in
    let q : PagedRing = with_notices p (request p sender need).notices in
    let is : new ≡ q.ring = c.in_ok-answer.ensures.left ∙ ap (λ bs. (with_notices (paged bs r) (request (paged bs r) sender need).notices).ring) c.as_slice.ensures in
    let met : match_of x.rings c.args.port sender ≡ Some (key, r) = c.match_key-key.ensures ∙ ap (option_map (λ (r : Ring). (key, r))) found in
    ring_written x key r new x.bytes q _ (c.get_mut.follows.holds new).0 is c.in_ok-answer.ensures.pages (memory_kept x.bytes r q there refl)
    ∙ lifted_after x key r (query_ring p key sender need) found there
    ∙ ap (λ o. after x (query_match x sender need o)) (sym met)
    ∙ ap (λ (x : Live). after x (query_match x sender need (match_of x.rings c.args.port sender))) c.self.view_is
