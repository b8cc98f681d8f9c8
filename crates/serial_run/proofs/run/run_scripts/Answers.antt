use Rattle.std.proofs.Common.{◌≡◌, ◌≤◌, ◌∙◌, sym, ap, subst, arith, ℕ, List, [], ◌∷◌, ◌++◌, length, IsTrue}
use Rattle.std.specs.List.{list_all}
use Rattle.argo_model.specs.Runs.Script.{Script}
use Rattle.argo_model.specs.Runs.Run.{run, is_open, is_finished}
use Rattle.argo_base.specs.Generator.{number_after}
use Rattle.serial_run.specs.Picks.{open_sections, EachIsPick}
use Rattle.serial_run.proofs.PickLaws.{all_finished, picked-open, one-more, number-turned, pick-made, ready-of, zero-where, none-left, open-where}
use Rattle.serial_run.proofs.OpenLaws.{still_open}
use Rattle.argo_machine.proofs.RunLaws.{few_sections}
use Rattle.serial_run.proofs.run.run_scripts.Goals as goal

pub steps-init : goal.steps-init
steps-init c =
    let s = c.args.scripts in
    let seed = c.args.seed in
    let m = c.in_ok-machine.machine in
    let at = c.in_ok-machine.ensures in
    let counted : c.len-count.result ≡ length s.sections = c.len-count.ensures ∙ ap (λ t. length t.sections) c.scripts.view_is in
    record {
      same = at.script;
      each = let P : List ℕ → Type 0 = λ vs. EachIsPick s seed vs in subst P (sym at.schedule) (λ i below. absurd (omega arith));
      turned = c.new-picks.ensures.number ∙ ap (λ vs. number_after seed (length vs)) (sym at.schedule);
      seeded = c.new-picks.ensures.seed;
      ready = ready-of s m.script m.schedule c.len-count.result c.list_open.new.vcpus.items at.script counted c.list_open.ensures.open;
      counted = counted;
      room = let e = c.in_ok-vcpus.ensures in omega (arith, e.capacity, c.list_open.ensures.room);
    }

pub go-requires : goal.go-requires
go-requires c =
    let s = c.args.scripts in
    let seed = c.args.seed in
    let before = c.steps.machine.schedule in
    let stood = c.steps.invariant in
    let v = c.index-v.result.now in
    let P : Script → Type 0 = λ t. IsTrue (is_open (run t before) v) in
    subst P (sym stood.same) (picked-open s seed before v
    (pick-made s seed c.steps.picks.seed c.steps.picks.number c.next_place.new.self.number c.next_place.result c.len.result v before c.steps.vcpus.items
    stood.turned c.next_place.ensures.number stood.seeded stood.ready (c.len.ensures ∙ c.steps.vcpus.ok.0) c.next_place.ensures.place c.next_place.ensures.inside
    c.index-v.ensures))

pub steps-preserved-then-finished : goal.steps-preserved-then-finished
steps-preserved-then-finished c =
    let s = c.args.scripts in
    let seed = c.args.seed in
    let before = c.steps.machine.schedule in
    let stood = c.steps.invariant in
    let ok = c.in_ok-go.ensures.ok.1 in
    let v = c.index-v.result.now in
    let number = c.next_place.new.self.number in
    record {
      same = ok.script ∙ stood.same;
      each =
          let P : List ℕ → Type 0 = λ vs. EachIsPick s seed vs in
          subst P (sym ok.schedule) (one-more s seed before v stood.each
          (pick-made s seed c.steps.picks.seed c.steps.picks.number number c.next_place.result c.len.result v before c.steps.vcpus.items
          stood.turned c.next_place.ensures.number stood.seeded stood.ready (c.len.ensures ∙ c.steps.vcpus.ok.0) c.next_place.ensures.place c.next_place.ensures.inside
          c.index-v.ensures));
      turned = number-turned seed c.steps.picks.number number v before c.go.new.self.schedule stood.turned c.next_place.ensures.number ok.schedule;
      seeded = c.next_place.ensures.seed ∙ stood.seeded;
      ready = ready-of s c.go.new.self.script c.go.new.self.schedule c.len-count.result c.list_open-then-finished.new.vcpus.items (ok.script ∙ stood.same) stood.counted
          c.list_open-then-finished.ensures.open;
      counted = stood.counted;
      room = omega (arith, stood.room, c.list_open-then-finished.ensures.room);
    }

pub steps-preserved : goal.steps-preserved
steps-preserved c =
    let s = c.args.scripts in
    let seed = c.args.seed in
    let before = c.steps.machine.schedule in
    let stood = c.steps.invariant in
    let ok = c.in_ok-go.ensures.ok.1 in
    let v = c.index-v.result.now in
    let number = c.next_place.new.self.number in
    let m = c.go.new.self in
    let was =
    picked-open s seed before v
    (pick-made s seed c.steps.picks.seed c.steps.picks.number number c.next_place.result c.len.result v before c.steps.vcpus.items
    stood.turned c.next_place.ensures.number stood.seeded stood.ready (c.len.ensures ∙ c.steps.vcpus.ok.0) c.next_place.ensures.place c.next_place.ensures.inside
    c.index-v.ensures) in
    let here : run m.script m.schedule ≡ run s (before ++ v ∷ []) = ap (λ t. run t m.schedule) (ok.script ∙ stood.same) ∙ ap (run s) ok.schedule in
    let is =
    open-where (is_open (run s (before ++ v ∷ [])) v)
    (λ closed. sym c.if-finished.false ∙ c.finished.ensures.1 (ap (λ r. is_open r v) here ∙ closed)) in
    record {
      same = ok.script ∙ stood.same;
      each =
          let P : List ℕ → Type 0 = λ vs. EachIsPick s seed vs in
          subst P (sym ok.schedule) (one-more s seed before v stood.each
          (pick-made s seed c.steps.picks.seed c.steps.picks.number number c.next_place.result c.len.result v before c.steps.vcpus.items
          stood.turned c.next_place.ensures.number stood.seeded stood.ready (c.len.ensures ∙ c.steps.vcpus.ok.0) c.next_place.ensures.place c.next_place.ensures.inside
          c.index-v.ensures));
      turned = number-turned seed c.steps.picks.number number v before c.go.new.self.schedule stood.turned c.next_place.ensures.number ok.schedule;
      seeded = c.next_place.ensures.seed ∙ stood.seeded;
      ready = stood.ready ∙ still_open s before v was is ∙ ap (λ vs. open_sections (run s vs)) (sym ok.schedule);
      counted = stood.counted;
      room = stood.room;
    }

pub finish-requires : goal.finish-requires
finish-requires c =
    let s = c.args.scripts in
    let schedule = c.steps.machine.schedule in
    let stood = c.steps.invariant in
    let none : length c.steps.vcpus.items ≡ 0 = sym c.steps.vcpus.ok.0 ∙ zero-where c.steps.vcpus.len c.steps-test.ensures in
    let P : Script → Type 0 = λ t. IsTrue (list_all is_finished (run t schedule).sections) in
    subst P (sym stood.same) (all_finished (run s schedule) (sym stood.ready ∙ none-left c.steps.vcpus.items none))

pub overflow_cast-count-then-finished : goal.overflow_cast-count-then-finished
overflow_cast-count-then-finished c =
    let m = c.scripts.inside in
    let few = few_sections (record { version = m.version; domains = m.domains; sections = m.parts }) c.scripts.invariant in
    let P : Script → Type 0 = λ t. length t.sections ≤ 64 in
    let n = subst P c.scripts.view_is few in
    omega (arith, c.steps.invariant.counted, n)
