use Rattle.std.proofs.Common.{ℕ, ◌+◌, ◌*◌, ◌<◌, List, ◌∙◌, [], length, take, drop, sym, ap, subst, arith}
use Rattle.std.proofs.lemmas.List.{length-map}
use Rattle.argo_model.specs.Rules.Act as acts
use Rattle.argo_model.specs.Rules.State.{Live}
use Rattle.argo_model.specs.declared.action.Outcome.TheVariants.{Bytes}
use Rattle.guest_pages.specs.Rows.{row_bytes}
use Rattle.guest_pages.proofs.FlatLaws.{page-row_bytes}
use Rattle.paged_live.specs.Homes.{home_at}
use Rattle.paged_live.specs.Parts.{Parts, seen}
use Rattle.paged_live.proofs.PartsLaws.{found_row}
use Rattle.paged_live.proofs.PutLaws.{absent, home_stands, lent_at, row_none}
use Rattle.paged_live.proofs.FetchLaws.{none_in_any_case, fetch_alone, fetch_absent, fetch_lent}
use Rattle.paged_live.proofs.live.Live.shown.Goals as goal

pub returns-in-Some-clause-some : goal.returns-in-Some-clause-some
returns-in-Some-clause-some c =
    let i = c.self.inside in
    let p = c.args.piece in
    let x : Parts = record { private = i.private; homes = i.homes.items; flag = i.flag; next_serial = i.next_serial; rows = i.rings } in
    sym (ap Bytes c.part_of.ensures
    ∙ fetch_alone x c.self.invariant p.page p.off p.n c.in-Some.page.now c.requires c.in-Some.ensures.some
    ∙ ap (λ (l : Live). acts.fetch l p.page p.off p.n) c.self.view_is)

pub returns-in_err-home-clause-none : goal.returns-in_err-home-clause-none
returns-in_err-home-clause-none c =
    let i = c.self.inside in
    let p = c.args.piece in
    let x : Parts = record { private = i.private; homes = i.homes.items; flag = i.flag; next_serial = i.next_serial; rows = i.rings } in
    let lent = ap (λ hs. home_at hs p.page) (sym c.as_slice.ensures.value) ∙ sym c.home_at.ensures ∙ c.in_err-home.was in
    none_in_any_case c.from_residual.result
    (ap (λ (l : Live). acts.fetch l p.page p.off p.n) (sym c.self.view_is)
    ∙ fetch_absent (seen x) p.page p.off p.n (absent x c.self.invariant p.page c.in_default.ensures.none lent))

pub returns-in_err-row-clause-none : goal.returns-in_err-row-clause-none
returns-in_err-row-clause-none c =
    let i = c.self.inside in
    let p = c.args.piece in
    let x : Parts = record { private = i.private; homes = i.homes.items; flag = i.flag; next_serial = i.next_serial; rows = i.rings } in
    let lent = ap (λ hs. home_at hs p.page) (sym c.as_slice.ensures.value) ∙ sym c.home_at.ensures ∙ c.in_ok-home.was in
    absurd (home_stands x c.self.invariant p.page c.in_ok-home.home lent (row_none x.rows c.in_ok-home.home.key (sym c.in_err-row.ensures.value)))

pub page-requires-2 : goal.page-requires-2
page-requires-2 c =
    let i = c.self.inside in
    let p = c.args.piece in
    let x : Parts = record { private = i.private; homes = i.homes.items; flag = i.flag; next_serial = i.next_serial; rows = i.rings } in
    let home = c.in_ok-home.home in
    let lent = ap (λ hs. home_at hs p.page) (sym c.as_slice.ensures.value) ∙ sym c.home_at.ensures ∙ c.in_ok-home.was in
    let a = c.in_ok-row.row.now.value in
    let f = found_row x.rows home.key c.in_ok-row.row.now (sym c.in_ok-row.ensures.value) in
    let at = (lent_at x c.self.invariant p.page p.off home.place [] home.key a a f lent).0 in
    subst (λ (row : List (ℕ × List ℕ)). home.place < length row) (sym c.row-pages.ensures) (omega (arith, at, length-map a.row (λ (p : ℕ × List ℕ). p.0)))

pub returns-clause-some : goal.returns-clause-some
returns-clause-some c =
    let i = c.self.inside in
    let p = c.args.piece in
    let x : Parts = record { private = i.private; homes = i.homes.items; flag = i.flag; next_serial = i.next_serial; rows = i.rings } in
    let home = c.in_ok-home.home in
    let lent = ap (λ hs. home_at hs p.page) (sym c.as_slice.ensures.value) ∙ sym c.home_at.ensures ∙ c.in_ok-home.was in
    let a = c.in_ok-row.row.now.value in
    let f = found_row x.rows home.key c.in_ok-row.row.now (sym c.in_ok-row.ensures.value) in
    let at = (lent_at x c.self.invariant p.page p.off home.place [] home.key a a f lent).0 in
    let inside : home.place < length c.row-pages.result.now =
    subst (λ (row : List (ℕ × List ℕ)). home.place < length row) (sym c.row-pages.ensures) (omega (arith, at, length-map a.row (λ (p : ℕ × List ℕ). p.0))) in
    sym (ap Bytes (c.part_of-2.ensures
    ∙ ap (λ bs. take p.n (drop p.off bs)) c.page-2.ensures.value
    ∙ page-row_bytes c.row-pages.result.now home.place p.off p.n c.count.ensures.whole inside c.requires
    ∙ ap (λ row. take p.n (drop (4096 * home.place + p.off) (row_bytes row))) c.row-pages.ensures)
    ∙ fetch_lent x c.self.invariant p.page p.off p.n home.place home.key a f c.requires lent
    ∙ ap (λ (l : Live). acts.fetch l p.page p.off p.n) c.self.view_is)
