use Rattle.std.proofs.Common.{ℕ, List, [], IfOk, IfErr, refl, ap, subst}
use Rattle.std.proofs.lemmas.Result.{IfOk-weaker, on_err_weaker}
use Rattle.argo_model.specs.declared.action.Action.TheVariants.{Look}
use Rattle.argo_model.specs.declared.action.Outcome.{Outcome}
use Rattle.argo_model.specs.declared.action.Outcome.TheVariants.{Bytes}
use Rattle.argo_model.specs.Programs.Asks.{collect}
use Rattle.argo_model.specs.Rules.Access.{outcome_unseen}
use Rattle.line_phase.specs.declared.phase.Phase.{Phase}
use Rattle.line_phase.specs.declared.phase.Phase.TheVariants.{Reading, Writing, Asking}
use Rattle.line_phase.specs.Phase.{rest_of}
use Rattle.line_phase.specs.Ranges.{FetchMoves, CountsBytes}
use Rattle.line_phase.specs.Reader.{after_read, after_fault}
use Rattle.vcpu_machine.proofs.GoingLaws.{moves_stay, moves_by}
use Rattle.line_phase.proofs.MovedLaws.{over_by, reads_more, reads_on, puts_on}
use Rattle.vcpu_machine.proofs.SeenLaws.{seen_performs}
use Rattle.vcpu_machine.proofs.line.go.Goals as goal

pub returns-in-More-clause-ok : goal.returns-in-More-clause-ok
returns-in-More-clause-ok g c =
    let r = c.in-Reading in
    let m = c.seen_moved-moved in
    let old : Phase = Reading r.rest r.got r.reader in
    let at = rw r.is at c.requires.at_phase in
    let same = c.reserve.ensures.items in
    let P : Outcome → Type 0 = λ o. FetchMoves r.rest r.got.items o m.result m.new.rest m.new.got.items in
    let bytes = subst (λ (bs : List ℕ). IfOk c.seen.result (λ b. FetchMoves r.rest bs (Bytes b.now) m.result m.new.rest m.new.got.items)) same m.ensures.bytes in
    let unseen = subst (λ (bs : List ℕ). IfErr c.seen.result (λ u. FetchMoves r.rest bs (outcome_unseen u) m.result m.new.rest m.new.got.items)) same m.ensures.unseen in
    let does = ap (λ ps. collect ps r.got.items (after_fault r.reader) (after_read r.reader) []) c.split_first.ensures.pieces in
    let came = seen_performs (g.A.Access.actors c.args.a.now) c.args.v c.split_first.result.0 (g.A.Access.told c.args.a.now) (g.A.Access.told c.count.new.self)
    (g.A.Access.totals c.args.a.now) (g.A.Access.totals c.count.new.self) (rest_of c.args.line.now old []) does c.count.ensures.told_stays c.count.ensures.counts
    P c.seen.result c.seen.ensures.bytes c.seen.ensures.unseen bytes unseen in
    let counted = subst (λ (bs : List ℕ). CountsBytes m.result r.rest bs m.new.rest m.new.got.items) same m.ensures.counted in
    rw r.is (
      came.0,
      came.1,
      moves_stay c.args.line.now old (Reading m.new.rest m.new.got r.reader) came.0
          (reads_more c.args.line.now m.result r.rest m.new.rest r.got m.new.got r.reader came.0 c.in-More.is at came.2 m.ensures.nearer counted),
    )

pub returns-in_default : goal.returns-in_default
returns-in_default g c =
    let r = c.in-Reading in
    let m = c.seen_moved-moved in
    let old : Phase = Reading r.rest r.got r.reader in
    let at = rw r.is at c.requires.at_phase in
    let same = c.reserve.ensures.items in
    let P : Outcome → Type 0 = λ o. FetchMoves r.rest r.got.items o m.result m.new.rest m.new.got.items in
    let bytes = subst (λ (bs : List ℕ). IfOk c.seen.result (λ b. FetchMoves r.rest bs (Bytes b.now) m.result m.new.rest m.new.got.items)) same m.ensures.bytes in
    let unseen = subst (λ (bs : List ℕ). IfErr c.seen.result (λ u. FetchMoves r.rest bs (outcome_unseen u) m.result m.new.rest m.new.got.items)) same m.ensures.unseen in
    let does = ap (λ ps. collect ps r.got.items (after_fault r.reader) (after_read r.reader) []) c.split_first.ensures.pieces in
    let came = seen_performs (g.A.Access.actors c.args.a.now) c.args.v c.split_first.result.0 (g.A.Access.told c.args.a.now) (g.A.Access.told c.count.new.self)
    (g.A.Access.totals c.args.a.now) (g.A.Access.totals c.count.new.self) (rest_of c.args.line.now old []) does c.count.ensures.told_stays c.count.ensures.counts
    P c.seen.result c.seen.ensures.bytes c.seen.ensures.unseen bytes unseen in
    let on = c.read_on-followed in
    rw r.is
    (record {
      ok = (
        came.0,
        came.1,
        moves_by c.args.line.now old old c.settle.new.phase came.0 on.result c.settle.result
            (reads_on c.args.line.now m.result r.rest m.new.rest r.got m.new.got.items r.reader came.0 on.result old (over_by m.result c.in_default.not-More) at came.2 on.ensures) c.settle.ensures,
      );
      err = tt;
      err_room = tt;
      actors = c.count.ensures.actors_stay;
      err_told = tt;
      err_totals = tt;
    })

pub returns-in_default-moved : goal.returns-in_default-moved
returns-in_default-moved g c =
    let w = c.in-Writing in
    let m = c.put_moved-moved in
    let on = c.put_on-followed in
    let o = c.in_ok-outcome-in-Writing.outcome in
    let old : Phase = Writing w.rest w.text in
    let at = rw w.is at c.requires.at_phase in
    rw w.is
    (record {
      ok = (
        o,
        c.in_ok-outcome-in-Writing.ensures.ok,
        moves_by c.args.line.now old old c.settle-in-Writing.new.phase o on.result c.settle-in-Writing.result
            (puts_on c.args.line.now m.result w.rest m.new.rest w.text o on.result old (over_by m.result c.in_default-moved.not-More) at m.ensures.moves on.ensures) c.settle-in-Writing.ensures,
      );
      err = tt;
      err_room = tt;
      actors = c.in_ok-outcome-in-Writing.ensures.actors;
      err_told = tt;
      err_totals = tt;
    })

pub returns-in_ok-followed-in-Asking-clause-ok : goal.returns-in_ok-followed-in-Asking-clause-ok
returns-in_ok-followed-in-Asking-clause-ok g c =
    let f = c.in_ok-followed-in-Asking in
    let asks = f.ensures.ok in
    let old : Phase = Asking c.in-Asking.question in
    rw c.in-Asking.is (
      asks.0,
      asks.1,
      moves_by c.args.line.now old old c.settle-in-Asking.new.phase asks.0 f.followed c.settle-in-Asking.result (asks.2 c.args.line.now old) c.settle-in-Asking.ensures,
    )

pub returns-in_ok-outcome-in-Looking-clause-ok : goal.returns-in_ok-outcome-in-Looking-clause-ok
returns-in_ok-outcome-in-Looking-clause-ok g c =
    let l = c.in_ok-outcome-in-Looking in
    rw c.in-Looking.is
    (l.outcome, record { action = Look; does = refl; acts = l.ensures.acts; counts_are = l.ensures.counts }, c.looked.ensures c.args.line.now)

pub returns-in-Receiving-clause-ok : goal.returns-in-Receiving-clause-ok
returns-in-Receiving-clause-ok g c =
    rw c.in-Receiving.is
    (IfOk-weaker c.receive.result _ _ (λ reply came. (came.0, came.1, came.2 c.args.line.now)) c.receive.ensures.ok)

pub returns-in-Receiving-clause-err : goal.returns-in-Receiving-clause-err
returns-in-Receiving-clause-err g c =
    rw c.in-Receiving.is (on_err_weaker c.receive.result (λ alike. alike c.args.line.now) c.receive.ensures.err)
