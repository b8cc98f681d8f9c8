use Rattle.std.proofs.Common.{◌≡◌, ◌+◌, ◌++◌, set, ap, ◌∙◌, rules, refl}
use Rattle.argo_model.specs.Runs.Run.{step}
use Rattle.argo_model.specs.Runs.Final.{schedule_of, grown, done_lines}
use Rattle.argo_machine.specs.Kept.{IsOpenIn, StaysKept}
use Rattle.argo_machine.specs.Replies.{reply_steps}
use Rattle.argo_machine.proofs.MachineLaws.{world_with, kept_same, advanced, keeps_along, same_world, actor_at, few_steps, counted_length}
use Rattle.argo_machine.proofs.OpenLaws.{kept_with, inside, here, more}
use Rattle.argo_machine.proofs.StandLaws.{sections-set, left-same, left-less}
use Rattle.argo_machine.proofs.BookLaws.{schedule_of-grown}
use Rattle.argo_machine.proofs.machine.Kept.go.Goals as goal

pub index_mut-vcpu-requires : goal.index_mut-vcpu-requires
index_mut-vcpu-requires g c =
    let m = c.self.inside in
    let k = kept_with m.vcpus.items (world_with (g.W.Access.told m.world) (g.W.Access.actors m.world) (g.W.Access.totals m.world)) m.books.runs.items m.books.done.items m.books.reply_steps.items in
    rw m.vcpus.ok.0 (inside k c.args.v (rw (← c.self.view_is) at c.requires))

pub go-requires-clause-unfinished : goal.go-requires-clause-unfinished
go-requires-clause-unfinished g c =
    let m = c.self.inside in
    let k = kept_with m.vcpus.items (world_with (g.W.Access.told m.world) (g.W.Access.actors m.world) (g.W.Access.totals m.world)) m.books.runs.items m.books.done.items m.books.reply_steps.items in
    more k c.args.v c.index_mut-vcpu.result.now (rw (← c.self.view_is) at c.requires) c.index_mut-vcpu.ensures.value

pub go-requires-clause-section : goal.go-requires-clause-section
go-requires-clause-section g c =
    let m = c.self.inside in
    let k = kept_with m.vcpus.items (world_with (g.W.Access.told m.world) (g.W.Access.actors m.world) (g.W.Access.totals m.world)) m.books.runs.items m.books.done.items m.books.reply_steps.items in
    let open_in : IsOpenIn k c.args.v = rw (← c.self.view_is) at c.requires in
    let x = c.index_mut-vcpu.result.now in
    actor_at k.vcpus k.world k.runs k.done k.reply_steps open_in.course c.args.v x
    (here k c.args.v x open_in c.index_mut-vcpu.ensures.value) open_in.keeps

pub go-requires-clause-few : goal.go-requires-clause-few
go-requires-clause-few g c =
    let m = c.self.inside in
    let k = kept_with m.vcpus.items (world_with (g.W.Access.told m.world) (g.W.Access.actors m.world) (g.W.Access.totals m.world)) m.books.runs.items m.books.done.items m.books.reply_steps.items in
    let open_in : IsOpenIn k c.args.v = rw (← c.self.view_is) at c.requires in
    few_steps k.vcpus k.world k.runs k.done k.reply_steps open_in.course c.args.v (inside k c.args.v open_in) open_in.keeps

pub returns-in_err-reply-clause-err : goal.returns-in_err-reply-clause-err
returns-in_err-reply-clause-err g c =
    let m = c.self.inside in
    let k = kept_with m.vcpus.items (world_with (g.W.Access.told m.world) (g.W.Access.actors m.world) (g.W.Access.totals m.world)) m.books.runs.items m.books.done.items m.books.reply_steps.items in
    let open_in : IsOpenIn k c.args.v = rw (← c.self.view_is) at c.requires in
    let xs = k.vcpus in
    let x = c.index_mut-vcpu.result.now in
    let new = c.go.new.self in
    let after = world_with (g.W.Access.told c.go.new.a) (g.W.Access.actors c.go.new.a) (g.W.Access.totals c.go.new.a) in
    let at = here k c.args.v x open_in c.index_mut-vcpu.ensures.value in
    let e = c.in_err-reply.ensures in
    let books = c.in_ok-reserve.ensures.same in
    let left = c.reserve.new.self in
    let h : StaysKept k (kept_with (set xs c.args.v new) after left.runs.items left.done.items left.reply_steps.items) = record {
      sections = sections-set xs c.args.v x new at e.err.part;
      schedule = ap schedule_of books.runs;
      left = left-same xs c.args.v x new at e.err.left;
      course = λ course keeps.
          keeps_along (set xs c.args.v new) (set xs c.args.v new) k.world after k.runs left.runs.items k.done left.done.items
          k.reply_steps left.reply_steps.items course
          refl (same_world k.world after e.err_told e.actors e.err_totals) books.runs books.done books.steps
          (kept_same xs k.world k.runs k.done k.reply_steps c.args.v x new at e.err course keeps);
    } in
    rw (← c.self.view_is) (search (h, rules))

pub steps-step-requires : goal.steps-step-requires
steps-step-requires g c =
    let m = c.self.inside in
    let k = kept_with m.vcpus.items (world_with (g.W.Access.told m.world) (g.W.Access.actors m.world) (g.W.Access.totals m.world)) m.books.runs.items m.books.done.items m.books.reply_steps.items in
    let open_in : IsOpenIn k c.args.v = rw (← c.self.view_is) at c.requires in
    let e = c.in_ok-reply.ensures.ok in
    rw e.2 (counted_length k.vcpus k.world k.runs k.done k.reply_steps open_in.course c.args.v
    e.0 (inside k c.args.v open_in) open_in.keeps)

pub returns-clause-ok : goal.returns-clause-ok
returns-clause-ok g c =
    let m = c.self.inside in
    let k = kept_with m.vcpus.items (world_with (g.W.Access.told m.world) (g.W.Access.actors m.world) (g.W.Access.totals m.world)) m.books.runs.items m.books.done.items m.books.reply_steps.items in
    let open_in : IsOpenIn k c.args.v = rw (← c.self.view_is) at c.requires in
    let xs = k.vcpus in
    let v = c.args.v in
    let x = c.index_mut-vcpu.result.now in
    let new = c.go.new.self in
    let after = world_with (g.W.Access.told c.go.new.a) (g.W.Access.actors c.go.new.a) (g.W.Access.totals c.go.new.a) in
    let at = here k v x open_in c.index_mut-vcpu.ensures.value in
    let e = c.in_ok-reply.ensures in
    let o = e.ok.0 in
    let turned = e.ok.1 in
    let reply = c.in_ok-reply.reply in
    let n = c.steps-step.result in
    let books = c.in_ok-reserve.ensures.same in
    let line : c.done_lines-line.result + 1 ≡ x.done + 1 = ap (λ m. m + 1) c.done_lines-line.ensures.is in
    let runs : c.note.new.self.runs.items ≡ grown k.runs v = c.note.ensures.runs ∙ ap (λ rs. grown rs v) books.runs in
    let done : c.note.new.self.done.items ≡ k.done ++ done_lines v (x.done + 1) reply =
    c.note.ensures.done ∙ ap (λ ds. ds ++ done_lines v (c.done_lines-line.result + 1) reply) books.done
    ∙ ap (λ m. k.done ++ done_lines v m reply) line in
    let steps : c.note.new.self.reply_steps.items ≡ k.reply_steps ++ reply_steps n reply =
    c.note.ensures.steps ∙ ap (λ ns. ns ++ reply_steps n reply) books.steps in
    rw (← c.self.view_is) (
      o,
      record {
        sections = sections-set xs v x new at turned.part;
        schedule = ap schedule_of runs ∙ schedule_of-grown k.runs v;
        nearer = left-less xs v x new at turned.nearer;
        course = λ course keeps.
            let a = advanced xs k.world after k.runs k.done k.reply_steps v n x new o reply
            at turned e.actors e.ok.2 c.steps-step.ensures course keeps in (
              keeps_along (set xs v new) (set xs v new) after after (grown k.runs v) c.note.new.self.runs.items
                  (k.done ++ done_lines v (x.done + 1) reply) c.note.new.self.done.items
                  (k.reply_steps ++ reply_steps n reply) c.note.new.self.reply_steps.items (step course v)
                  refl refl runs done steps a.0,
              a.1,
            );
      },
    )
