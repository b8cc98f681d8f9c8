use Rattle.std.proofs.Common.{◌≡◌, ◌/◌, IsTrue, length, Some, true, false, refl, sym, ap, ◌∙◌, subst}
use Rattle.std.specs.Option.{option_copied_mut}
use Rattle.std.specs.Map.{lookup}
use Rattle.std.specs.BTreeMap.{is_at}
use Rattle.argo_base.specs.Match.{key_cmp}
use Rattle.argo_model.specs.Rules.State.{Ring, Live}
use Rattle.argo_model.specs.Rules.Effects.{Change, after}
use Rattle.argo_model.specs.Rules.Register.{own_ring, stands_so, register_allowed, resized}
use Rattle.argo_model.specs.Rules.RingBytes.{PagedRing, paged}
use Rattle.argo_model.specs.Rules.Starts.{started}
use Rattle.flat_live.specs.Memory.{are_there, stand_in}
use Rattle.flat_live.proofs.LiveLaws.{written_stands, ring_written, ring_back, in_any_case}
use Rattle.flat_live.proofs.RegisterLaws.{free_there, replaced_stands, allowed_stands, allowed_anew}
use Rattle.flat_live.proofs.live.Live.register_allowed.Goals as goal

pub register_new-requires-clause-there : goal.register_new-requires-clause-there
register_new-requires-clause-there c =
    subst (λ (l : Live). IsTrue (are_there (length l.bytes / 4096) c.args.pages)) (sym c.self.view_is) (free_there c.args.self.now c.args.key c.args.pages c.requires.free)

pub invariant_of-self-then-stands_so : goal.invariant_of-self-then-stands_so
invariant_of-self-then-stands_so c =
    let x = c.self.inside in
    let r = c.in-Some.ring.now in
    let found : lookup (is_at (key_cmp c.args.key)) x.rings.entries ≡ Some r = sym c.get_mut.ensures.value ∙ ap option_copied_mut c.in-Some.is in
    subst (λ rs. IsTrue (stand_in (length x.bytes / 4096) rs)) (sym (c.get_mut.follows.holds r).0)
    (written_stands (length x.bytes / 4096) x.rings.entries c.args.key r r c.self.invariant found refl)

pub returns-then-stands_so-clause-left : goal.returns-then-stands_so-clause-left
returns-then-stands_so-clause-left c =
    let i = c.self.inside in
    let x : Live = record { bytes = i.bytes; flag = i.flag; next_serial = i.next_serial; rings = i.rings.entries } in
    let key = c.args.key in
    let len = c.args.len in
    let pages = c.args.pages in
    let r = c.in-Some.ring.now in
    let found : lookup (is_at (key_cmp key)) x.rings ≡ Some r = sym c.get_mut.ensures.value ∙ ap option_copied_mut c.in-Some.is in
    let stands : stands_so r len pages ≡ true = ap (stands_so r len) (sym c.as_slice.ensures) ∙ sym c.stands_so.ensures ∙ c.if-stands_so.true in
    ring_back x key r r x.bytes _ found (c.get_mut.follows.holds r).0 refl refl
    ∙ sym (ap (after x) (allowed_stands x key len pages r found stands))
    ∙ ap (λ (l : Live). after l (register_allowed l key len pages (own_ring l key))) c.self.view_is

pub restart-requires-clause-there : goal.restart-requires-clause-there
restart-requires-clause-there c =
    subst (λ (l : Live). IsTrue (are_there (length l.bytes / 4096) c.args.pages)) (sym c.self.view_is) (free_there c.args.self.now c.args.key c.args.pages c.requires.free)

pub invariant_of-self-in_err-change : goal.invariant_of-self-in_err-change
invariant_of-self-in_err-change c =
    let x = c.self.inside in
    let r = c.in-Some.ring.now in
    let new = c.restart.new.self in
    let found : lookup (is_at (key_cmp c.args.key)) x.rings.entries ≡ Some r = sym c.get_mut.ensures.value ∙ ap option_copied_mut c.in-Some.is in
    subst (λ n. IsTrue (stand_in (n / 4096) (c.get_mut.follows.lender new).entries)) (sym c.in_err-change.ensures.length)
    (subst (λ rs. IsTrue (stand_in (length x.bytes / 4096) rs)) (sym (c.get_mut.follows.holds new).0)
    (written_stands (length x.bytes / 4096) x.rings.entries c.args.key r new c.self.invariant found (ap (λ (x : Ring). x.pages) c.in_err-change.ensures.err_ring)))

pub returns-in_err-change-clause-err : goal.returns-in_err-change-clause-err
returns-in_err-change-clause-err c =
    let i = c.self.inside in
    let x : Live = record { bytes = i.bytes; flag = i.flag; next_serial = i.next_serial; rings = i.rings.entries } in
    let r = c.in-Some.ring.now in
    let new = c.restart.new.self in
    let found : lookup (is_at (key_cmp c.args.key)) x.rings ≡ Some r = sym c.get_mut.ensures.value ∙ ap option_copied_mut c.in-Some.is in
    in_any_case c.from_residual-in_err-change.result
    (ring_back x c.args.key r new c.restart.new.memory _ found (c.get_mut.follows.holds new).0 c.in_err-change.ensures.err_ring c.in_err-change.ensures.err_memory ∙ c.self.view_is)

pub invariant_of-self-2 : goal.invariant_of-self-2
invariant_of-self-2 c =
    let x = c.self.inside in
    let new = c.restart.new.self in
    let there = subst (λ (l : Live). IsTrue (are_there (length l.bytes / 4096) c.args.pages)) (sym c.self.view_is) (free_there c.args.self.now c.args.key c.args.pages c.requires.free) in
    let pages : new.pages ≡ c.args.pages = ap (λ (x : Ring). x.pages) c.in_ok-change.ensures.ring in
    subst (λ n. IsTrue (stand_in (n / 4096) (c.get_mut.follows.lender new).entries)) (sym c.in_ok-change.ensures.length)
    (subst (λ rs. IsTrue (stand_in (length x.bytes / 4096) rs)) (sym (c.get_mut.follows.holds new).0)
    (replaced_stands (length x.bytes / 4096) x.rings.entries c.args.key new c.self.invariant (subst (λ ps. IsTrue (are_there (length x.bytes / 4096) ps)) (sym pages) there)))

pub returns-clause-signals : goal.returns-clause-signals
returns-clause-signals c =
    let i = c.self.inside in
    let x : Live = record { bytes = i.bytes; flag = i.flag; next_serial = i.next_serial; rings = i.rings.entries } in
    let key = c.args.key in
    let len = c.args.len in
    let pages = c.args.pages in
    let r = c.in-Some.ring.now in
    let found : lookup (is_at (key_cmp key)) x.rings ≡ Some r = sym c.get_mut.ensures.value ∙ ap option_copied_mut c.in-Some.is in
    let apart : stands_so r len pages ≡ false = ap (stands_so r len) (sym c.as_slice.ensures) ∙ sym c.stands_so.ensures ∙ c.if-stands_so.false in
    c.in_ok-change.ensures.signals
    ∙ sym (ap (λ (c : Change Live). c.signals) (allowed_anew x key len pages r found apart))
    ∙ ap (λ (l : Live). (register_allowed l key len pages (own_ring l key)).signals) c.self.view_is

pub returns-clause-left : goal.returns-clause-left
returns-clause-left c =
    let i = c.self.inside in
    let x : Live = record { bytes = i.bytes; flag = i.flag; next_serial = i.next_serial; rings = i.rings.entries } in
    let key = c.args.key in
    let len = c.args.len in
    let pages = c.args.pages in
    let r = c.in-Some.ring.now in
    let new = c.restart.new.self in
    let found : lookup (is_at (key_cmp key)) x.rings ≡ Some r = sym c.get_mut.ensures.value ∙ ap option_copied_mut c.in-Some.is in
    let apart : stands_so r len pages ≡ false = ap (stands_so r len) (sym c.as_slice.ensures) ∙ sym c.stands_so.ensures ∙ c.if-stands_so.false in
    let q : PagedRing = started (paged x.bytes (resized r len pages)) in
    ring_written x key q.ring new c.restart.new.memory q _ (c.get_mut.follows.holds new).0 c.in_ok-change.ensures.ring (ap (λ (x : Ring). x.pages) c.in_ok-change.ensures.ring) c.in_ok-change.ensures.memory
    ∙ sym (ap (after x) (allowed_anew x key len pages r found apart))
    ∙ ap (λ (l : Live). after l (register_allowed l key len pages (own_ring l key))) c.self.view_is
