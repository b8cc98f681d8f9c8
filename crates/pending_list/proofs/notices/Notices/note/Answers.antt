use Rattle.std.proofs.Common.{◌≡◌, ◌<◌, nat_le, true, false, length, unwrap_or, max, Ok, Err, sym, ap, ◌∙◌, subst, arith}
use Rattle.std.specs.Prelude.{IsTrue, if◌then◌else◌}
use Rattle.std.specs.List.{refill}
use Rattle.std.specs.Ordering.{nat_cmp}
use Rattle.std.proofs.lemmas.Bool.Decides.{nat_tests}
use Rattle.argo_base.specs.Limits.{most_notices}
use Rattle.argo_base.specs.Notices.{Notices, size_of, noted}
use Rattle.pending_list.specs.declared.notices.Note.TheVariants.{Noted, Busy}
use Rattle.pending_list.specs.Search.{place_of, rises_from}
use Rattle.pending_list.proofs.NoticeLaws.{not_busy, busy_when_full, noted-raised, noted-absent}
use Rattle.pending_list.proofs.RiseLaws.{rises_insert}
use Rattle.pending_list.proofs.notices.Notices.note.Goals as goal

raised : (c : goal.After-self-1) → refill (length c.self.inside.rows.items) c.self.inside.rows.items c.raise.new.rows ≡ noted c.self.inside.rows.items c.args.dom c.args.n
raised c =
    let at : Ok c.in-Ok.place ≡ place_of nat_cmp c.self.inside.rows.items c.args.dom = c.in-Ok.ensures.is ∙ ap (λ rows. place_of nat_cmp rows c.args.dom) c.as_slice.ensures.value in
    let below : c.in-Ok.place < length c.self.inside.rows.items = subst (λ (rows : Notices). c.in-Ok.place < length rows) c.as_slice.ensures.value c.in-Ok.ensures.inside in
    noted-raised c.self.inside.rows.items c.as_mut_slice.result.now c.raise.new.rows c.args.dom c.in-Ok.place c.args.n at below c.as_mut_slice.ensures.value c.raise.ensures

pub invariant_of-self : goal.invariant_of-self
invariant_of-self c =
    subst (λ rows. IsTrue (rises_from 0 rows)) (sym (raised c))
    (rises_insert 0 c.self.inside.rows.items c.args.dom (max c.args.n (unwrap_or (size_of c.self.inside.rows.items c.args.dom) 0)) (omega arith) c.self.invariant)

pub returns-in-Ok-clause-note : goal.returns-in-Ok-clause-note
returns-in-Ok-clause-note c =
    let at : Ok c.in-Ok.place ≡ place_of nat_cmp c.self.inside.rows.items c.args.dom = c.in-Ok.ensures.is ∙ ap (λ rows. place_of nat_cmp rows c.args.dom) c.as_slice.ensures.value in
    rw (← c.self.view_is) (sym (ap (λ b. if b then Busy else Noted) (not_busy c.self.inside.rows.items c.args.dom c.in-Ok.place at)))

pub returns-in-Ok-clause-left : goal.returns-in-Ok-clause-left
returns-in-Ok-clause-left c =
    let at : Ok c.in-Ok.place ≡ place_of nat_cmp c.self.inside.rows.items c.args.dom = c.in-Ok.ensures.is ∙ ap (λ rows. place_of nat_cmp rows c.args.dom) c.as_slice.ensures.value in
    rw (← c.self.view_is) (raised c ∙ sym (ap (λ b. if b then c.self.inside.rows.items else noted c.self.inside.rows.items c.args.dom c.args.n) (not_busy c.self.inside.rows.items c.args.dom c.in-Ok.place at)))

pub returns-in-Err-clause-note : goal.returns-in-Err-clause-note
returns-in-Err-clause-note c =
    let at : Err c.in-Err.field-0 ≡ place_of nat_cmp c.self.inside.rows.items c.args.dom = c.in-Err.ensures.is ∙ ap (λ rows. place_of nat_cmp rows c.args.dom) c.as_slice.ensures.value in
    let full : nat_le most_notices (length c.self.inside.rows.items) ≡ true = grind (arith, nat_tests) in
    rw (← c.self.view_is) (sym (ap (λ b. if b then Busy else Noted) (busy_when_full c.self.inside.rows.items c.args.dom c.in-Err.field-0 c.self.invariant at ∙ full)))

pub returns-in-Err-clause-left : goal.returns-in-Err-clause-left
returns-in-Err-clause-left c =
    let at : Err c.in-Err.field-0 ≡ place_of nat_cmp c.self.inside.rows.items c.args.dom = c.in-Err.ensures.is ∙ ap (λ rows. place_of nat_cmp rows c.args.dom) c.as_slice.ensures.value in
    let full : nat_le most_notices (length c.self.inside.rows.items) ≡ true = grind (arith, nat_tests) in
    rw (← c.self.view_is) (sym (ap (λ b. if b then c.self.inside.rows.items else noted c.self.inside.rows.items c.args.dom c.args.n)
    (busy_when_full c.self.inside.rows.items c.args.dom c.in-Err.field-0 c.self.invariant at ∙ full)))

inserted : (c : goal.After-insert) → c.insert.new.self.items ≡ noted c.self.inside.rows.items c.args.dom c.args.n
inserted c =
    let at : Err c.in-Err.field-0 ≡ place_of nat_cmp c.self.inside.rows.items c.args.dom = c.in-Err.ensures.is ∙ ap (λ rows. place_of nat_cmp rows c.args.dom) c.as_slice.ensures.value in
    c.insert.ensures.items ∙ sym (noted-absent c.self.inside.rows.items c.args.dom c.in-Err.field-0 c.args.n c.self.invariant at)

pub invariant_of-self-in-Err-2 : goal.invariant_of-self-in-Err-2
invariant_of-self-in-Err-2 c =
    subst (λ rows. IsTrue (rises_from 0 rows)) (sym (inserted c))
    (rises_insert 0 c.self.inside.rows.items c.args.dom (max c.args.n (unwrap_or (size_of c.self.inside.rows.items c.args.dom) 0)) (omega arith) c.self.invariant)

pub returns-clause-left : goal.returns-clause-left
returns-clause-left c =
    let at : Err c.in-Err.field-0 ≡ place_of nat_cmp c.self.inside.rows.items c.args.dom = c.in-Err.ensures.is ∙ ap (λ rows. place_of nat_cmp rows c.args.dom) c.as_slice.ensures.value in
    let room : nat_le most_notices (length c.self.inside.rows.items) ≡ false = grind (arith, nat_tests) in
    rw (← c.self.view_is) (inserted c ∙ sym (ap (λ b. if b then c.self.inside.rows.items else noted c.self.inside.rows.items c.args.dom c.args.n)
    (busy_when_full c.self.inside.rows.items c.args.dom c.in-Err.field-0 c.self.invariant at ∙ room)))
