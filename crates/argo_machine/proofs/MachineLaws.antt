-- Laws of what a machine keeps of a run.
use Rattle.std.proofs.Common.{◌≡◌, ℕ, ◌+◌, ◌-◌, ◌^◌, nat_lt, ◌<◌, ◌≤◌, eqb, List, [], ◌∷◌, ◌++◌, length, set, IsTrue, map, sum_by, count_by, Option, Some, None, slice_get, refl, sym, ap, ◌∙◌, subst, arith}
use Rattle.std.proofs.lemmas.Bool.Decides.{nat_tests}
use Rattle.std.proofs.lemmas.List.{length-append, length-set, length-map}
use Rattle.std.proofs.lemmas.List.FromFn.{length-map-range_with_len}
use Rattle.std.proofs.lemmas.List.Elements.{filter_map-append}
use Rattle.std.specs.List.{range_with_len}
use Rattle.std.specs.Option.{option_map, option_and_then}
use Rattle.argo_model.specs.declared.scripts.Actor.{Actor}
use Rattle.argo_model.specs.declared.scripts.DomainLine.{DomainLine}
use Rattle.argo_model.specs.declared.action.Outcome.{Outcome}
use Rattle.argo_model.specs.declared.reply.Reply.{Reply}
use Rattle.argo_model.specs.declared.closing.Totals.{Totals}
use Rattle.argo_model.specs.declared.closing.Run.{Run}
use Rattle.argo_model.specs.declared.closing.DoneLine.{DoneLine}
use Rattle.argo_model.specs.Rules.State.{State, start_state}
use Rattle.argo_model.specs.Rules.Access.{counted_at, has_steps_left}
use Rattle.argo_model.specs.Runs.Script.{Section}
use Rattle.argo_model.specs.Runs.Run.{Step, Course, Turn, turn, next_turn, step_of, after_turn, step, start, at_first_line}
use Rattle.argo_model.specs.Runs.Final.{grown, runs_of, schedule_of, done_at, done_of, totals_of, totals_after, done_lines, no_steps}
use Rattle.vcpu_machine.specs.Vcpu.{VcpuAt, StandsAt, GoesOn, TakesTurn}
use Rattle.argo_machine.specs.Kept.{WorldAt, AllStand, actor_of, KeepsCourse}
use Rattle.argo_machine.specs.Machine.{script_of}
use Rattle.argo_machine.specs.Vcpus.{AreVcpusOf, most_of}
use Rattle.argo_machine.specs.Replies.{reply_steps}
use Rattle.argo_machine.proofs.BookLaws.{schedule_of-grown, runs_of-push}
use Rattle.argo_machine.proofs.ReplyLaws.{keeps_step}
use Rattle.argo_machine.proofs.StandLaws.{stands_at, all_stand-set, actors-set, left-set, some_inside, all_stand-same, left-same, slice_get-map, map-actors}
use Rattle.argo_machine.proofs.TotalsLaws.{totals-set, slice_get-map-range, zero_add, step_number, counted, count-le, all_steps, zero_totals}

-- the turn that the run takes where a virtual CPU takes one
pub record RunTurn (c : Course) (v line : ℕ) (o : Outcome) (reply : Option Reply) (new : VcpuAt) (after : Option State) : Type 0 where
  pub turned : Turn
  pub is : next_turn c v ≡ Some turned
  pub line_is : turned.line ≡ line
  pub outcome_is : turned.outcome ≡ o
  pub reply_is : turned.reply ≡ reply
  pub state_is : after ≡ Some turned.state
  pub stands : StandsAt new turned.progress

run_turn : (xs : List VcpuAt) (before after : Option State) (c : Course) (v : ℕ) (x new : VcpuAt) (o : Outcome) (reply : Option Reply)
    → before ≡ Some c.state → AllStand xs c.sections → slice_get xs v ≡ Some x → TakesTurn before x o reply after new
    → RunTurn c v (x.done + 1) o reply new after
run_turn xs before after c v x new o reply told all here taken =
    let st = stands_at xs c.sections v x all here in
    let t = taken.turns c.state told st.0 st.2 in
    record {
      turned = t.0;
      is = ap (λ y. option_and_then (turn c.state) y) st.1 ∙ t.1;
      line_is = t.2;
      outcome_is = t.3;
      reply_is = t.4;
      state_is = t.5;
      stands = t.6;
    }

-- the lines that are done after one step more
pub done-push : (steps : List Step) (x : Step) → done_of (steps ++ x ∷ []) ≡ done_of steps ++ done_of (x ∷ [])
done-push steps x = filter_map-append done_at steps (x ∷ [])

done_of-one : (v line : ℕ) (a : _) (o : Outcome) (reply : Option Reply) → done_of (record { vcpu = v; line = line; action = a; outcome = o; reply = reply } ∷ []) ≡ done_lines v line reply
done_of-one v line a o None = refl
done_of-one v line a o (Some r) = refl

-- what keeps the course keeps it after a step
pub advanced : (xs : List VcpuAt) (w after : WorldAt) (runs : List Run) (done : List DoneLine) (ns : List ℕ) (v n : ℕ) (x new : VcpuAt) (o : Outcome) (reply : Option Reply)
    → slice_get xs v ≡ Some x → TakesTurn w.told x o reply after.told new
    → after.actors ≡ w.actors → after.totals ≡ counted_at w.totals v o → option_map (λ t. t.steps) (slice_get after.totals v) ≡ Some n
    → (c : Course) → KeepsCourse xs w runs done ns c
    → KeepsCourse (set xs v new) after (grown runs v) (done ++ done_lines v (x.done + 1) reply) (ns ++ reply_steps n reply) (step c v)
    × (option_map (λ t. t.outcome) (next_turn c v) ≡ Some o)
advanced xs w after runs done ns v n x new o reply here taken actors counts numbered c keeps =
    let r = run_turn xs w.told after.told c v x new o reply keeps.told_is keeps.stand here taken in
    let y : Step = step_of v r.turned in
    let inside = some_inside xs v x here in
    let stepped : step c v ≡ after_turn c v (Some r.turned) = ap (λ t. after_turn c v t) r.is in
    let more : length (schedule_of (grown runs v)) ≡ length (schedule_of runs) + 1 =
    ap length (schedule_of-grown runs v) ∙ length-append (schedule_of runs) (v ∷ []) in
    let totals : after.totals ≡ map (totals_of (c.steps ++ y ∷ [])) (range_with_len 0 (length xs)) =
    counts ∙ ap (λ ts. counted_at ts v o) keeps.totals_are ∙ counted c.steps (length xs) v o inside
    ∙ ap (λ q. set (map (totals_of c.steps) (range_with_len 0 (length xs))) v (totals_after (totals_of c.steps v) q)) (sym r.outcome_is)
    ∙ totals-set c.steps y (length xs) v refl inside in
    let at : n ≡ count_by (λ t. eqb t.vcpu v) c.steps + 1 =
    step_number c.steps y (length xs) v n inside (sym (ap (λ ts. option_map (λ t. t.steps) (slice_get ts v)) totals) ∙ numbered) refl in
    let P : Course → Type 0 = λ d. KeepsCourse (set xs v new) after (grown runs v) (done ++ done_lines v (x.done + 1) reply) (ns ++ reply_steps n reply) d in (
      subst P (sym stepped) (record {
        told_is = r.state_is;
        actors_are = actors ∙ keeps.actors_are ∙ sym (actors-set xs v x new here taken.part);
        totals_are = totals ∙ ap (λ k. map (totals_of (c.steps ++ y ∷ [])) (range_with_len 0 k)) (sym (length-set xs v new));
        stand = all_stand-set xs c.sections v new r.turned.progress keeps.stand r.stands;
        each_step =
            length-append c.steps (y ∷ []) ∙ ap (λ k. k + 1) keeps.each_step
            ∙ sym (length-append (schedule_of runs) (v ∷ [])) ∙ ap length (sym (schedule_of-grown runs v));
        runs_are = ap (λ rs. grown rs v) keeps.runs_are ∙ sym (runs_of-push (schedule_of runs) v) ∙ ap runs_of (sym (schedule_of-grown runs v));
        done_is =
            ap (λ ds. ds ++ done_lines v (x.done + 1) reply) keeps.done_is
            ∙ ap (λ ls. done_of c.steps ++ ls) (sym (done_of-one v r.turned.line r.turned.action r.turned.outcome r.turned.reply ∙ ap (λ l. done_lines v l r.turned.reply) r.line_is ∙ ap (λ q. done_lines v (x.done + 1) q) r.reply_is))
            ∙ sym (done-push c.steps y);
        replies_are = keeps_step done ns c.steps y v (x.done + 1) n reply keeps.replies_are refl r.reply_is at;
        bounded = let b = keeps.bounded in let l = left-set xs v x new here in let f = taken.nearer in rw more (omega arith);
      }),
      ap (λ q. option_map (λ z. z.outcome) q) r.is ∙ ap (λ q. Some q) r.outcome_is,
    )

-- a virtual CPU that goes on as before leaves what is kept
pub kept_same : (xs : List VcpuAt) (w : WorldAt) (runs : List Run) (done : List DoneLine) (ns : List ℕ) (v : ℕ) (x new : VcpuAt)
    → slice_get xs v ≡ Some x → GoesOn x new → (c : Course) → KeepsCourse xs w runs done ns c → KeepsCourse (set xs v new) w runs done ns c
kept_same xs w runs done ns v x new here same c keeps =
    record {
      told_is = keeps.told_is;
      actors_are = keeps.actors_are ∙ sym (actors-set xs v x new here same.part);
      totals_are = keeps.totals_are ∙ ap (λ k. map (totals_of c.steps) (range_with_len 0 k)) (sym (length-set xs v new));
      stand = all_stand-same xs c.sections v x new keeps.stand here same;
      each_step = keeps.each_step;
      runs_are = keeps.runs_are;
      done_is = keeps.done_is;
      replies_are = keeps.replies_are;
      bounded = rw (left-same xs v x new here same.left) keeps.bounded;
    }

-- equal parts keep the course alike
pub keeps_along : (xs xs2 : List VcpuAt) (w w2 : WorldAt) (rs rs2 : List Run) (ds ds2 : List DoneLine) (ns ns2 : List ℕ) (c : Course)
    → xs2 ≡ xs → w2 ≡ w → rs2 ≡ rs → ds2 ≡ ds → ns2 ≡ ns → KeepsCourse xs w rs ds ns c → KeepsCourse xs2 w2 rs2 ds2 ns2 c
keeps_along xs xs2 w w2 rs rs2 ds ds2 ns ns2 c ex ew er ed en keeps =
    let O : List VcpuAt → Type 0 = λ x. KeepsCourse x w rs ds ns c in
    let P : WorldAt → Type 0 = λ x. KeepsCourse xs2 x rs ds ns c in
    let Q : List Run → Type 0 = λ x. KeepsCourse xs2 w2 x ds ns c in
    let R : List DoneLine → Type 0 = λ x. KeepsCourse xs2 w2 rs2 x ns c in
    let N : List ℕ → Type 0 = λ x. KeepsCourse xs2 w2 rs2 ds2 x c in
    subst N (sym en) (subst R (sym ed) (subst Q (sym er) (subst P (sym ew) (subst O (sym ex) keeps))))

abbrev pub world_with : Option State → List Actor → List Totals → WorldAt
world_with s a t = record { told = s; actors = a; totals = t }

pub same_world : (w w2 : WorldAt) → w2.told ≡ w.told → w2.actors ≡ w.actors → w2.totals ≡ w.totals → w2 ≡ w
same_world w w2 s a t =
    ap (λ x. world_with x w2.actors w2.totals) s
    ∙ ap (λ x. world_with w.told x w2.totals) a ∙ ap (λ x. world_with w.told w.actors x) t

lt_to : (m n : ℕ) → m < n → IsTrue (nat_lt m n)
lt_to m n h = grind (arith, nat_tests)

-- no section has more steps than the schedule has numbers
pub few_steps : (xs : List VcpuAt) (w : WorldAt) (runs : List Run) (done : List DoneLine) (ns : List ℕ) (c : Course) (v : ℕ) → v < length xs
    → KeepsCourse xs w runs done ns c → IsTrue (has_steps_left w.totals v)
few_steps xs w runs done ns c v inside keeps =
    let at : slice_get w.totals v ≡ Some (totals_of c.steps v) =
    ap (λ ts. slice_get ts v) keeps.totals_are ∙ slice_get-map-range (totals_of c.steps) 0 (length xs) v inside ∙ ap (λ k. Some (totals_of c.steps k)) (zero_add v) in
    let n = count-le (λ t. eqb t.vcpu v) c.steps in
    let e = keeps.each_step in
    let b = keeps.bounded in
    rw at (lt_to ((totals_of c.steps v).steps) (2 ^ 32) (omega arith))

-- and all sections together have no more
pub few_in_all : (xs : List VcpuAt) (w : WorldAt) (runs : List Run) (done : List DoneLine) (ns : List ℕ) (c : Course)
    → KeepsCourse xs w runs done ns c → sum_by (λ t. t.steps) w.totals < 2 ^ 32 - 1
few_in_all xs w runs done ns c keeps =
    let a = all_steps (length xs) c.steps in
    let e = keeps.each_step in
    let b = keeps.bounded in
    rw keeps.totals_are (omega arith)

-- the actor of a virtual CPU is its section's in the world
pub actor_at : (xs : List VcpuAt) (w : WorldAt) (runs : List Run) (done : List DoneLine) (ns : List ℕ) (c : Course) (v : ℕ) (x : VcpuAt)
    → slice_get xs v ≡ Some x → KeepsCourse xs w runs done ns c → slice_get w.actors v ≡ Some x.part.actor
actor_at xs w runs done ns c v x here keeps =
    ap (λ ts. slice_get ts v) keeps.actors_are ∙ slice_get-map xs actor_of v ∙ ap (option_map actor_of) here

-- after a step of a section the world still has its totals
pub counted_length : (xs : List VcpuAt) (w : WorldAt) (runs : List Run) (done : List DoneLine) (ns : List ℕ) (c : Course) (v : ℕ) (o : Outcome) → v < length xs
    → KeepsCourse xs w runs done ns c → v < length (counted_at w.totals v o)
counted_length xs w runs done ns c v o inside keeps =
    let is = ap (λ ts. counted_at ts v o) keeps.totals_are ∙ counted c.steps (length xs) v o inside in
    let n = length-map-range_with_len (totals_of c.steps) 0 (length xs) in
    let m = length-set (map (totals_of c.steps) (range_with_len 0 (length xs))) v (totals_after (totals_of c.steps v) o) in
    rw (ap length is) (omega arith)

-- the schedule is short
pub short_schedule : (xs : List VcpuAt) (w : WorldAt) (runs : List Run) (done : List DoneLine) (ns : List ℕ) (c : Course)
    → KeepsCourse xs w runs done ns c → length (schedule_of runs) ≤ 2 ^ 28
short_schedule xs w runs done ns c keeps = let b = keeps.bounded in omega arith

-- before the first step
pub starts_so : (version : ℕ) (domains : List DomainLine) (xs : List VcpuAt) (sections : List Section) (w : WorldAt)
    → AreVcpusOf xs sections → w.told ≡ Some (start_state domains) → w.actors ≡ map (λ s. s.actor) sections → w.totals ≡ map (λ s. no_steps) sections
    → sum_by most_of sections ≤ 2 ^ 28
    → KeepsCourse xs w [] [] [] (start (script_of version domains xs))
starts_so version domains xs sections w are told actors totals bound =
    let n : length xs ≡ length sections = sym (length-map xs (λ x. x.part)) ∙ ap length are.sections_are in
    record {
      told_is = told;
      actors_are = actors ∙ ap (λ ss. map (λ s. s.actor) ss) (sym are.sections_are) ∙ map-actors xs;
      totals_are = totals ∙ zero_totals sections 0 ∙ ap (λ k. map (totals_of []) (range_with_len 0 k)) (sym n);
      stand = let P : List Section → Type 0 = λ ys. AllStand xs (map at_first_line ys) in subst P (sym are.sections_are) are.stand;
      each_step = refl;
      runs_are = refl;
      done_is = refl;
      replies_are = record { as_many = refl; heard_is = λ v. refl };
      bounded = let l = are.left in omega arith;
    }
