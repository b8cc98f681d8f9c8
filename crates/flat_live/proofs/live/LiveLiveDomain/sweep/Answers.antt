use Rattle.std.proofs.Common.{◌≡◌, ◌/◌, IsTrue, length, Some, None, refl, sym, ap, ◌∙◌, subst}
use Rattle.std.specs.Option.{option_copied_mut}
use Rattle.std.specs.Map.{lookup}
use Rattle.std.specs.BTreeMap.{is_at}
use Rattle.argo_base.specs.Match.{key_cmp}
use Rattle.argo_model.specs.Rules.State.{Live}
use Rattle.argo_model.specs.Rules.Effects.{after}
use Rattle.argo_model.specs.Rules.RingBytes.{PagedRing, paged}
use Rattle.flat_live.specs.Memory.{are_there, stand_in}
use Rattle.flat_live.proofs.LiveLaws.{found_stands, written_stands, lifted_after, ring_written, ring_back, in_any_case}
use Rattle.flat_live.proofs.OfferLaws.{memory_kept}
use Rattle.argo_model.specs.Rules.Sweep.{next_ring, sweep_found, sweep_ring}
use Rattle.flat_live.proofs.NextRingLaws.{next_at, next_is_there}
use Rattle.flat_live.proofs.live.LiveLiveDomain.sweep.Goals as goal
use Rattle.flat_live.proofs.live.LiveLiveDomain.sweep.Goals.{In_default-get_mut}

there_is : (c : In_default-get_mut) → ⊥
there_is c =
    let x = c.self.inside in
    let none : lookup (is_at (key_cmp c.in-Some.key)) x.rings.entries ≡ None = sym c.get_mut.ensures.value ∙ ap option_copied_mut c.in_default-get_mut.is in
    next_is_there c.args.after x.rings.entries c.in-Some.key c.get_mut.ensures.ordered (sym c.next_key.ensures ∙ c.in-Some.is) none

pub returns-in_default-get_mut-clause-outcome : goal.returns-in_default-get_mut-clause-outcome
returns-in_default-get_mut-clause-outcome c = absurd (there_is (goal.at.returns-in_default-get_mut-clause-outcome c).In_default-get_mut)

pub returns-in_default-get_mut-clause-signals : goal.returns-in_default-get_mut-clause-signals
returns-in_default-get_mut-clause-signals c = absurd (there_is (goal.at.returns-in_default-get_mut-clause-signals c).In_default-get_mut)

pub returns-in_default-get_mut-clause-left : goal.returns-in_default-get_mut-clause-left
returns-in_default-get_mut-clause-left c = absurd (there_is (goal.at.returns-in_default-get_mut-clause-left c).In_default-get_mut)

pub sweep-requires : goal.sweep-requires
sweep-requires c =
    let x = c.self.inside in
    let key = c.in-Some.key in
    let r = c.in-Some-get_mut.ring.now in
    let found : lookup (is_at (key_cmp key)) x.rings.entries ≡ Some r = sym c.get_mut.ensures.value ∙ ap option_copied_mut c.in-Some-get_mut.is in
    subst (λ bs. IsTrue (are_there (length bs / 4096) r.pages)) (sym c.as_slice.ensures) (found_stands (length x.bytes / 4096) x.rings.entries key r c.self.invariant found)

pub invariant_of-self-in_err-change : goal.invariant_of-self-in_err-change
invariant_of-self-in_err-change c =
    let x = c.self.inside in
    let key = c.in-Some.key in
    let r = c.in-Some-get_mut.ring.now in
    let new = c.sweep.new.self in
    let found : lookup (is_at (key_cmp key)) x.rings.entries ≡ Some r = sym c.get_mut.ensures.value ∙ ap option_copied_mut c.in-Some-get_mut.is in
    subst (λ rs. IsTrue (stand_in (length x.bytes / 4096) rs)) (sym (c.get_mut.follows.holds new).0)
    (written_stands (length x.bytes / 4096) x.rings.entries key r new c.self.invariant found c.in_err-change.ensures.pages)

pub invariant_of-self-2 : goal.invariant_of-self-2
invariant_of-self-2 c =
    let x = c.self.inside in
    let key = c.in-Some.key in
    let r = c.in-Some-get_mut.ring.now in
    let new = c.sweep.new.self in
    let found : lookup (is_at (key_cmp key)) x.rings.entries ≡ Some r = sym c.get_mut.ensures.value ∙ ap option_copied_mut c.in-Some-get_mut.is in
    subst (λ rs. IsTrue (stand_in (length x.bytes / 4096) rs)) (sym (c.get_mut.follows.holds new).0)
    (written_stands (length x.bytes / 4096) x.rings.entries key r new c.self.invariant found c.in_ok-change.ensures.pages)

pub returns-in_err-change-clause-err : goal.returns-in_err-change-clause-err
returns-in_err-change-clause-err c =
    let i = c.self.inside in
    let x : Live = record { bytes = i.bytes; flag = i.flag; next_serial = i.next_serial; rings = i.rings.entries } in
    let key = c.in-Some.key in
    let r = c.in-Some-get_mut.ring.now in
    let new = c.sweep.new.self in
    let found : lookup (is_at (key_cmp key)) x.rings ≡ Some r = sym c.get_mut.ensures.value ∙ ap option_copied_mut c.in-Some-get_mut.is in
    in_any_case c.from_residual.result (ring_back x key r new x.bytes _ found (c.get_mut.follows.holds new).0 c.in_err-change.ensures.err refl ∙ c.self.view_is)

pub returns-clause-outcome : goal.returns-clause-outcome
returns-clause-outcome c =
    let i = c.self.inside in
    let x : Live = record { bytes = i.bytes; flag = i.flag; next_serial = i.next_serial; rings = i.rings.entries } in
    let key = c.in-Some.key in
    let r = c.in-Some-get_mut.ring.now in
    let found : lookup (is_at (key_cmp key)) x.rings ≡ Some r = sym c.get_mut.ensures.value ∙ ap option_copied_mut c.in-Some-get_mut.is in
    let next = next_at c.args.after x.rings key (Some r) c.get_mut.ensures.ordered (sym c.next_key.ensures ∙ c.in-Some.is) found in
    c.in_ok-change.ensures.outcome ∙ ap (λ bs. (sweep_ring (paged bs r)).outcome) c.as_slice.ensures
    ∙ ap (λ o. (sweep_found x o).outcome) (sym next)
    ∙ ap (λ (x : Live). (sweep_found x (next_ring c.args.after x.rings)).outcome) c.self.view_is

pub returns-clause-signals : goal.returns-clause-signals
returns-clause-signals c =
    let i = c.self.inside in
    let x : Live = record { bytes = i.bytes; flag = i.flag; next_serial = i.next_serial; rings = i.rings.entries } in
    let key = c.in-Some.key in
    let r = c.in-Some-get_mut.ring.now in
    let found : lookup (is_at (key_cmp key)) x.rings ≡ Some r = sym c.get_mut.ensures.value ∙ ap option_copied_mut c.in-Some-get_mut.is in
    let next = next_at c.args.after x.rings key (Some r) c.get_mut.ensures.ordered (sym c.next_key.ensures ∙ c.in-Some.is) found in
    c.in_ok-change.ensures.signals ∙ ap (λ bs. (sweep_ring (paged bs r)).signals) c.as_slice.ensures
    ∙ ap (λ o. (sweep_found x o).signals) (sym next)
    ∙ ap (λ (x : Live). (sweep_found x (next_ring c.args.after x.rings)).signals) c.self.view_is

pub returns-clause-left : goal.returns-clause-left
returns-clause-left c =
    let i = c.self.inside in
    let x : Live = record { bytes = i.bytes; flag = i.flag; next_serial = i.next_serial; rings = i.rings.entries } in
    let key = c.in-Some.key in
    let r = c.in-Some-get_mut.ring.now in
    let new = c.sweep.new.self in
    let found : lookup (is_at (key_cmp key)) x.rings ≡ Some r = sym c.get_mut.ensures.value ∙ ap option_copied_mut c.in-Some-get_mut.is in
    let there = found_stands (length x.bytes / 4096) x.rings key r c.self.invariant found in
    let next = next_at c.args.after x.rings key (Some r) c.get_mut.ensures.ordered (sym c.next_key.ensures ∙ c.in-Some.is) found in
    let p = paged x.bytes r in
    let q : PagedRing = after p (sweep_ring p) in
    let is : new ≡ q.ring = c.in_ok-change.ensures.left ∙ ap (λ bs. (after (paged bs r) (sweep_ring (paged bs r))).ring) c.as_slice.ensures in
    ring_written x key r new x.bytes q _ (c.get_mut.follows.holds new).0 is c.in_ok-change.ensures.pages (memory_kept x.bytes r q there refl)
    ∙ lifted_after x key r (sweep_ring p) found there
    ∙ ap (λ o. after x (sweep_found x o)) (sym next)
    ∙ ap (λ (x : Live). after x (sweep_found x (next_ring c.args.after x.rings))) c.self.view_is
