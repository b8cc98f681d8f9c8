use Rattle.std.proofs.Common.{◌≡◌, Ok, Err, is_some, sym, ap, ◌∙◌, subst}
use Rattle.std.specs.Prelude.{IsTrue}
use Rattle.std.specs.Ordering.{nat_cmp}
use Rattle.std.specs.BTreeMap.{is_at}
use Rattle.pending_list.specs.Search.{place_of, rises_from}
use Rattle.pending_list.proofs.NoticeLaws.{stands, size-absent, withdrawn-found, withdrawn-absent}
use Rattle.pending_list.proofs.RiseLaws.{rises_remove}
use Rattle.pending_list.proofs.notices.Notices.withdraw.Goals as goal

pub invariant_of-self : goal.invariant_of-self
invariant_of-self c =
    let at : Ok c.in-Ok.place ≡ place_of nat_cmp c.self.inside.rows.items c.args.dom = c.in-Ok.ensures.is ∙ ap (λ rows. place_of nat_cmp rows c.args.dom) c.as_slice.ensures.value in
    subst (λ rows. IsTrue (rises_from 0 rows)) (withdrawn-found c.self.inside.rows.items c.args.dom c.in-Ok.place at ∙ sym c.remove.ensures.items)
    (rises_remove (is_at (nat_cmp c.args.dom)) 0 c.self.inside.rows.items c.self.invariant)

pub returns-in-Ok-clause-stood : goal.returns-in-Ok-clause-stood
returns-in-Ok-clause-stood c =
    let at : Ok c.in-Ok.place ≡ place_of nat_cmp c.self.inside.rows.items c.args.dom = c.in-Ok.ensures.is ∙ ap (λ rows. place_of nat_cmp rows c.args.dom) c.as_slice.ensures.value in
    rw (← c.self.view_is) (sym (stands c.self.inside.rows.items c.args.dom c.in-Ok.place at))

pub returns-in-Ok-clause-left : goal.returns-in-Ok-clause-left
returns-in-Ok-clause-left c =
    let at : Ok c.in-Ok.place ≡ place_of nat_cmp c.self.inside.rows.items c.args.dom = c.in-Ok.ensures.is ∙ ap (λ rows. place_of nat_cmp rows c.args.dom) c.as_slice.ensures.value in
    rw (c.remove.ensures.items, ← c.self.view_is) (sym (withdrawn-found c.self.inside.rows.items c.args.dom c.in-Ok.place at))

pub returns-in-Err-clause-stood : goal.returns-in-Err-clause-stood
returns-in-Err-clause-stood c =
    let at : Err c.in-Err.field-0 ≡ place_of nat_cmp c.self.inside.rows.items c.args.dom = c.in-Err.ensures.is ∙ ap (λ rows. place_of nat_cmp rows c.args.dom) c.as_slice.ensures.value in
    rw (← c.self.view_is) (sym (ap is_some (size-absent c.self.inside.rows.items c.args.dom c.in-Err.field-0 c.self.invariant at)))

pub returns-in-Err-clause-left : goal.returns-in-Err-clause-left
returns-in-Err-clause-left c =
    let at : Err c.in-Err.field-0 ≡ place_of nat_cmp c.self.inside.rows.items c.args.dom = c.in-Err.ensures.is ∙ ap (λ rows. place_of nat_cmp rows c.args.dom) c.as_slice.ensures.value in
    rw (← c.self.view_is) (sym (withdrawn-absent c.self.inside.rows.items c.args.dom c.in-Err.field-0 c.self.invariant at))
