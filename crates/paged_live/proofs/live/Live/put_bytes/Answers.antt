use Rattle.std.proofs.Common.{ℕ, List, ◌∙◌, sym, ap, subst, arith}
use Rattle.std.proofs.lemmas.List.{length-map}
use Rattle.std.specs.Option.{option_copied_mut}
use Rattle.argo_model.specs.Rules.Act as acts
use Rattle.argo_model.specs.Rules.Effects.{after}
use Rattle.argo_model.specs.Rules.State.{Live}
use Rattle.guest_pages.specs.Pages.{page_at}
use Rattle.paged_live.specs.Homes.{home_at}
use Rattle.paged_live.specs.Parts.{Parts, seen, store_of, IsParts}
use Rattle.paged_live.proofs.JoinLaws.{alone_at}
use Rattle.paged_live.proofs.PartsLaws.{found_value, changed_parts, with_ring}
use Rattle.paged_live.proofs.PutLaws.{none_of, unwritten, home_stands, absent, written_parts, written_seen, put_seen, lent_at, stays_absent, fault_absent, done_put, done_written}
use Rattle.paged_live.proofs.live.Live.put_bytes.Goals as goal

pub invariant_of-self : goal.invariant_of-self
invariant_of-self c =
    let i = c.self.inside in
    let x : Parts = record { private = i.private; homes = i.homes.items; flag = i.flag; next_serial = i.next_serial; rows = i.rings } in
    subst (λ p. IsParts (record x { private = p })) (sym c.in_err-found.ensures.err) c.self.invariant

pub invariant_of-self-then-found : goal.invariant_of-self-then-found
invariant_of-self-then-found c =
    let i = c.self.inside in
    let x : Parts = record { private = i.private; homes = i.homes.items; flag = i.flag; next_serial = i.next_serial; rows = i.rings } in
    let alone = alone_at (store_of x) c.args.page (sym c.in_ok-found.ensures.found ∙ c.if-found.true) in
    subst (λ p. IsParts (record x { private = p })) (sym c.in_ok-found.ensures.written)
    (written_parts x c.self.invariant c.args.page c.args.off c.args.bytes.now c.requires alone.bytes alone.is)

pub returns-then-found-clause-outcome : goal.returns-then-found-clause-outcome
returns-then-found-clause-outcome c =
    let i = c.self.inside in
    let x : Parts = record { private = i.private; homes = i.homes.items; flag = i.flag; next_serial = i.next_serial; rows = i.rings } in
    let alone = alone_at (store_of x) c.args.page (sym c.in_ok-found.ensures.found ∙ c.if-found.true) in
    done_written x c.self.invariant c.args.page c.args.off c.args.bytes.now alone.bytes alone.is
    ∙ ap (λ (l : Live). (acts.put l c.args.page c.args.off c.args.bytes.now).outcome) c.self.view_is

pub returns-then-found-clause-left : goal.returns-then-found-clause-left
returns-then-found-clause-left c =
    let i = c.self.inside in
    let x : Parts = record { private = i.private; homes = i.homes.items; flag = i.flag; next_serial = i.next_serial; rows = i.rings } in
    let alone = alone_at (store_of x) c.args.page (sym c.in_ok-found.ensures.found ∙ c.if-found.true) in
    ap (λ p. seen (record x { private = p })) c.in_ok-found.ensures.written
    ∙ written_seen x c.self.invariant c.args.page c.args.off c.args.bytes.now c.requires alone.bytes alone.is
    ∙ ap (λ (l : Live). after l (acts.put l c.args.page c.args.off c.args.bytes.now)) c.self.view_is

pub returns-in_default-clause-outcome : goal.returns-in_default-clause-outcome
returns-in_default-clause-outcome c =
    let i = c.self.inside in
    let x : Parts = record { private = i.private; homes = i.homes.items; flag = i.flag; next_serial = i.next_serial; rows = i.rings } in
    let none = none_of (page_at x.private c.args.page) (sym c.in_ok-found.ensures.found ∙ c.if-found.false) in
    let lent = ap (λ hs. home_at hs c.args.page) (sym c.as_slice.ensures.value) ∙ sym c.home_at.ensures ∙ c.in_default.is in
    fault_absent (seen x) c.args.page c.args.off c.args.bytes.now (absent x c.self.invariant c.args.page none lent)
    ∙ ap (λ (l : Live). (acts.put l c.args.page c.args.off c.args.bytes.now).outcome) c.self.view_is

pub returns-in_default-clause-left : goal.returns-in_default-clause-left
returns-in_default-clause-left c =
    let i = c.self.inside in
    let x : Parts = record { private = i.private; homes = i.homes.items; flag = i.flag; next_serial = i.next_serial; rows = i.rings } in
    let none = none_of (page_at x.private c.args.page) (sym c.in_ok-found.ensures.found ∙ c.if-found.false) in
    let lent = ap (λ hs. home_at hs c.args.page) (sym c.as_slice.ensures.value) ∙ sym c.home_at.ensures ∙ c.in_default.is in
    let same = c.in_ok-found.ensures.written ∙ unwritten x.private c.args.page c.args.off c.args.bytes.now none in
    ap (λ p. seen (record x { private = p })) same
    ∙ stays_absent (seen x) c.args.page c.args.off c.args.bytes.now (absent x c.self.invariant c.args.page none lent)
    ∙ ap (λ (l : Live). after l (acts.put l c.args.page c.args.off c.args.bytes.now)) c.self.view_is

pub invariant_of-self-in_default-find_exact_mut : goal.invariant_of-self-in_default-find_exact_mut
invariant_of-self-in_default-find_exact_mut c =
    let i = c.self.inside in
    let x : Parts = record { private = i.private; homes = i.homes.items; flag = i.flag; next_serial = i.next_serial; rows = i.rings } in
    let none = none_of (page_at x.private c.args.page) (sym c.in_ok-found.ensures.found ∙ c.if-found.false) in
    let lent = ap (λ hs. home_at hs c.args.page) (sym c.as_slice.ensures.value) ∙ sym c.home_at.ensures ∙ c.in-Some.is in
    absurd (home_stands x c.self.invariant c.args.page c.in-Some.home lent (sym c.find_exact_mut.ensures.value ∙ ap option_copied_mut c.in_default-find_exact_mut.is))

pub returns-in_default-find_exact_mut-clause-outcome : goal.returns-in_default-find_exact_mut-clause-outcome
returns-in_default-find_exact_mut-clause-outcome c =
    let i = c.self.inside in
    let x : Parts = record { private = i.private; homes = i.homes.items; flag = i.flag; next_serial = i.next_serial; rows = i.rings } in
    let none = none_of (page_at x.private c.args.page) (sym c.in_ok-found.ensures.found ∙ c.if-found.false) in
    let lent = ap (λ hs. home_at hs c.args.page) (sym c.as_slice.ensures.value) ∙ sym c.home_at.ensures ∙ c.in-Some.is in
    absurd (home_stands x c.self.invariant c.args.page c.in-Some.home lent (sym c.find_exact_mut.ensures.value ∙ ap option_copied_mut c.in_default-find_exact_mut.is))

pub returns-in_default-find_exact_mut-clause-left : goal.returns-in_default-find_exact_mut-clause-left
returns-in_default-find_exact_mut-clause-left c =
    let i = c.self.inside in
    let x : Parts = record { private = i.private; homes = i.homes.items; flag = i.flag; next_serial = i.next_serial; rows = i.rings } in
    let none = none_of (page_at x.private c.args.page) (sym c.in_ok-found.ensures.found ∙ c.if-found.false) in
    let lent = ap (λ hs. home_at hs c.args.page) (sym c.as_slice.ensures.value) ∙ sym c.home_at.ensures ∙ c.in-Some.is in
    absurd (home_stands x c.self.invariant c.args.page c.in-Some.home lent (sym c.find_exact_mut.ensures.value ∙ ap option_copied_mut c.in_default-find_exact_mut.is))

pub put_into-requires-clause-inside : goal.put_into-requires-clause-inside
put_into-requires-clause-inside c =
    let i = c.self.inside in
    let x : Parts = record { private = i.private; homes = i.homes.items; flag = i.flag; next_serial = i.next_serial; rows = i.rings } in
    let none = none_of (page_at x.private c.args.page) (sym c.in_ok-found.ensures.found ∙ c.if-found.false) in
    let lent = ap (λ hs. home_at hs c.args.page) (sym c.as_slice.ensures.value) ∙ sym c.home_at.ensures ∙ c.in-Some.is in
    let key = c.in-Some.home.key in
    let a = c.in-Some-find_exact_mut.ring.now in
    let f = found_value x.rows key a (sym c.find_exact_mut.ensures.value ∙ ap option_copied_mut c.in-Some-find_exact_mut.is) in
    let at = (lent_at x c.self.invariant c.args.page c.args.off c.in-Some.home.place c.args.bytes.now key a a f lent).0 in
    omega (arith, at, length-map a.row (λ (p : ℕ × List ℕ). p.0))

pub invariant_of-self-2 : goal.invariant_of-self-2
invariant_of-self-2 c =
    let i = c.self.inside in
    let x : Parts = record { private = i.private; homes = i.homes.items; flag = i.flag; next_serial = i.next_serial; rows = i.rings } in
    let none = none_of (page_at x.private c.args.page) (sym c.in_ok-found.ensures.found ∙ c.if-found.false) in
    let same = c.in_ok-found.ensures.written ∙ unwritten x.private c.args.page c.args.off c.args.bytes.now none in
    let key = c.in-Some.home.key in
    let a = c.in-Some-find_exact_mut.ring.now in
    let f = found_value x.rows key a (sym c.find_exact_mut.ensures.value ∙ ap option_copied_mut c.in-Some-find_exact_mut.is) in
    subst (λ p. IsParts (record (with_ring x key c.put_into.new.ring) { private = p })) (sym same)
    (changed_parts x c.self.invariant key a c.put_into.new.ring f c.put_into.ensures.still)

pub returns-clause-outcome : goal.returns-clause-outcome
returns-clause-outcome c =
    let i = c.self.inside in
    let x : Parts = record { private = i.private; homes = i.homes.items; flag = i.flag; next_serial = i.next_serial; rows = i.rings } in
    let none = none_of (page_at x.private c.args.page) (sym c.in_ok-found.ensures.found ∙ c.if-found.false) in
    let lent = ap (λ hs. home_at hs c.args.page) (sym c.as_slice.ensures.value) ∙ sym c.home_at.ensures ∙ c.in-Some.is in
    done_put x c.self.invariant c.args.page c.args.off c.args.bytes.now c.in-Some.home lent
    ∙ ap (λ (l : Live). (acts.put l c.args.page c.args.off c.args.bytes.now).outcome) c.self.view_is

pub returns-clause-left : goal.returns-clause-left
returns-clause-left c =
    let i = c.self.inside in
    let x : Parts = record { private = i.private; homes = i.homes.items; flag = i.flag; next_serial = i.next_serial; rows = i.rings } in
    let none = none_of (page_at x.private c.args.page) (sym c.in_ok-found.ensures.found ∙ c.if-found.false) in
    let lent = ap (λ hs. home_at hs c.args.page) (sym c.as_slice.ensures.value) ∙ sym c.home_at.ensures ∙ c.in-Some.is in
    let same = c.in_ok-found.ensures.written ∙ unwritten x.private c.args.page c.args.off c.args.bytes.now none in
    let key = c.in-Some.home.key in
    let a = c.in-Some-find_exact_mut.ring.now in
    let f = found_value x.rows key a (sym c.find_exact_mut.ensures.value ∙ ap option_copied_mut c.in-Some-find_exact_mut.is) in
    ap (λ p. seen (record (with_ring x key c.put_into.new.ring) { private = p })) same
    ∙ put_seen x c.self.invariant c.args.page c.args.off c.in-Some.home.place c.args.bytes.now key a c.put_into.new.ring f lent c.requires c.put_into.ensures.still c.put_into.ensures.left
    ∙ ap (λ (l : Live). after l (acts.put l c.args.page c.args.off c.args.bytes.now)) c.self.view_is
