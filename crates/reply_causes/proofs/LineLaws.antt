-- Each line has its cause, and so has each reply of a run.
use Rattle.std.proofs.Common.{◌≡◌, ◌≢◌, ℕ, zero, suc, ◌+◌, ◌==◌, Bool, true, false, List, [], ◌∷◌, ◌++◌, map, drop, slice_get, slice_set, IsTrue, IsSome, IfSome, Option, Some, None, refl, sym, ap, ◌∙◌, subst, arith, append_assoc, append-nil}
use Rattle.std.specs.Prelude.{option_and_then, option_map, option_to_list, fold}
use Rattle.std.proofs.lemmas.Bool.Decides.{nat_tests}
use Rattle.std.proofs.lemmas.List.{map-append}
use Rattle.std.proofs.lemmas.Option.{slice_get-map}
use Rattle.argo_model.specs.declared.scripts.Actor.{Actor}
use Rattle.argo_model.specs.declared.scripts.Actor.TheVariants.{Vcpu, Control}
use Rattle.argo_model.specs.declared.line.Line.{Line}
use Rattle.argo_model.specs.declared.line.Line.TheVariants.{Store, Load, Op, Await, Recv, Destroy, Reset, Create}
use Rattle.argo_model.specs.declared.reply.Reply.{Reply}
use Rattle.argo_model.specs.declared.action.Action.{Action}
use Rattle.argo_model.specs.Rules.State.{State}
use Rattle.argo_model.specs.Rules.Act.{act}
use Rattle.argo_model.specs.Programs.Program.{Command, RegisterRing, UnregisterRing, SendV, Notify, Unknown, command_of, program, op, caller_of, Rests}
use Rattle.argo_model.specs.Programs.Asks.{Next, Do, Say}
use Rattle.argo_model.specs.Runs.Script.{Script, Section}
use Rattle.argo_model.specs.Runs.Run.{Progress, Turn, Course, turn, turn_at, turn_by, turn_to, after_turn, step, start, at_first_line}
use Rattle.argo_model.specs.Laws.Transitions.{Transition, transition_of, transition_at, transitions_from, transitions_of_line}
use Rattle.reply_causes.specs.Plays.{Plays, PlaysTo, reply_in}
use Rattle.reply_causes.specs.Tables.{states_of, unless_lost}
use Rattle.reply_causes.specs.Causes.{cause_of_op, cause_of_line}
use Rattle.reply_causes.specs.Runs.{IsOfLine, LineHasCause, steps_of_line, IfLine, is_line_of, CallHasCause, HasCause, ReplyIsLast, AllRepliesHaveCauses}
use Rattle.reply_causes.proofs.ControlLaws.{destroys_have_causes, resets_have_causes, creates_have_causes}
use Rattle.reply_causes.proofs.GoneLaws.{lost_exactly_where_away}
use Rattle.reply_causes.proofs.MemoryLaws.{stores_have_causes, loads_have_causes, awaits_have_causes}
use Rattle.reply_causes.proofs.NotifyLaws.{notifies_have_causes}
use Rattle.reply_causes.proofs.RecvLaws.{recvs_have_causes}
use Rattle.reply_causes.proofs.RegisterLaws.{registers_have_causes, unregisters_have_causes, unknown-cause}
use Rattle.reply_causes.proofs.RunLaws.{ahead, plays-same, still-fresh, turned, get-written, get-others}
use Rattle.reply_causes.proofs.TestLaws.{get-drop, drop-next}
use Rattle.reply_causes.proofs.SendReadLaws.{sends_have_causes}

-- a hypercall of a command
call_has_cause : (command : Command) (d generation a1 a2 a3 a4 : ℕ) (ts : List Transition) (r : Reply)
    → PlaysTo (Vcpu d generation) (λ os. op d command a1 a2 a3 a4 os) ts r
    → (r ≡ unless_lost ts (cause_of_op command (record { caller = d; a1 = a1; a2 = a2; a3 = a3; a4 = a4 }) (states_of ts)))
    × CallHasCause command (record { caller = d; a1 = a1; a2 = a2; a3 = a3; a4 = a4 }) ts r
call_has_cause RegisterRing d generation a1 a2 a3 a4 ts r h = (registers_have_causes d generation a1 a2 a3 a4 ts r h, tt)
call_has_cause UnregisterRing d generation a1 a2 a3 a4 ts r h = (unregisters_have_causes d generation a1 a2 a3 a4 ts r h, tt)
call_has_cause SendV d generation a1 a2 a3 a4 ts r h =
    let has = sends_have_causes (record { caller = d; a1 = a1; a2 = a2; a3 = a3; a4 = a4 }) generation ts r h in (has.reply, has)
call_has_cause Notify d generation a1 a2 a3 a4 ts r h = (notifies_have_causes d generation a1 a2 a3 a4 ts r h, tt)
call_has_cause Unknown d generation a1 a2 a3 a4 ts r h = (unknown-cause d generation a1 a2 a3 a4 ts r h, tt)

-- a line that the section may have
line_has_cause : (actor : Actor) (line : Line) (ts : List Transition) (r : Reply) → IsTrue (is_line_of actor line) → PlaysTo actor (program actor line) ts r
    → (r ≡ unless_lost ts (cause_of_line (caller_of actor) line (states_of ts))) × LineHasCause (caller_of actor) line ts r
line_has_cause (Vcpu d generation) (Store at bytes) ts r may h = (stores_have_causes d generation at bytes ts r h, tt)
line_has_cause (Vcpu d generation) (Load at n) ts r may h = (loads_have_causes d generation at n ts r h, tt)
line_has_cause (Vcpu d generation) (Op c a1 a2 a3 a4) ts r may h =
    call_has_cause (command_of c) d generation a1 a2 a3 a4 ts r h
line_has_cause (Vcpu d generation) (Await turns) ts r may h = (awaits_have_causes d generation turns ts r h, tt)
line_has_cause (Vcpu d generation) (Recv page len) ts r may h = (recvs_have_causes d generation page len ts r h, tt)
line_has_cause (Vcpu d generation) (Destroy dom) ts r may h = (destroys_have_causes (Vcpu d generation) dom ts r h, tt)
line_has_cause (Vcpu d generation) (Reset dom) ts r may h = (resets_have_causes (Vcpu d generation) dom ts r h, tt)
line_has_cause (Vcpu d generation) (Create dom) ts r may h = (creates_have_causes (Vcpu d generation) dom ts r h, tt)
line_has_cause Control (Destroy dom) ts r may h = (destroys_have_causes Control dom ts r h, tt)
line_has_cause Control (Reset dom) ts r may h = (resets_have_causes Control dom ts r h, tt)
line_has_cause Control (Create dom) ts r may h = (creates_have_causes Control dom ts r h, tt)
line_has_cause Control (Store at bytes) ts r may h = absurd (let no : ⊥ = cc in no)
line_has_cause Control (Load at n) ts r may h = absurd (let no : ⊥ = cc in no)
line_has_cause Control (Op c a1 a2 a3 a4) ts r may h = absurd (let no : ⊥ = cc in no)
line_has_cause Control (Await turns) ts r may h = absurd (let no : ⊥ = cc in no)
line_has_cause Control (Recv page len) ts r may h = absurd (let no : ⊥ = cc in no)

has_cause : (actor : Actor) (line : Line) (ts : List Transition) (r : Reply) → IsTrue (is_line_of actor line) → PlaysTo actor (program actor line) ts r → HasCause actor line ts r
has_cause actor line ts r may h =
    let has = line_has_cause actor line ts r may h in
    record { lost = lost_exactly_where_away actor (program actor line) ts h.plays; reply = has.0; done = has.1 }

-- a reply ends its line
reply_is_last : (actor : Actor) (k : Rests) (ts : List Transition) → Plays actor k ts → ReplyIsLast ts
reply_is_last actor k [] h = tt
reply_is_last actor k (t ∷ []) h = tt
reply_is_last actor k (t ∷ u ∷ ts) h =
    (h.0.reply ∙ ap reply_in h.1.0.next, reply_is_last actor (λ os. k (t.step.outcome ∷ os)) (u ∷ ts) h.1)

-- one more step of a run is that of its transition
step-more : (c : Course) (u : ℕ) → (step c u).steps ≡ c.steps ++ map (λ (t : Transition). t.step) (option_to_list (transition_at c u))
step-more c u = by (slice_get c.sections u) where
  turns : (q : Progress) (t : Option Turn) → (after_turn c u t).steps ≡ c.steps ++ map (λ (t : Transition). t.step) (option_to_list (option_map (transition_of c.state u q) t))
  turns q None = sym (append-nil c.steps)
  turns q (Some t) = refl

  by : (o : Option Progress) → (after_turn c u (option_and_then (turn c.state) o)).steps
      ≡ c.steps ++ map (λ (t : Transition). t.step) (option_to_list (option_and_then (λ p. option_map (transition_of c.state u p) (turn c.state p)) o))
  by None = sym (append-nil c.steps)
  by (Some q) = turns q (turn c.state q)

steps-from : (vs : List ℕ) (c : Course) → (fold step c vs).steps ≡ c.steps ++ map (λ (t : Transition). t.step) (transitions_from c vs)
steps-from [] c = sym (append-nil c.steps)
steps-from (u ∷ us) c =
    let here = map (λ (t : Transition). t.step) (option_to_list (transition_at c u)) in
    let there = map (λ (t : Transition). t.step) (transitions_from (step c u) us) in
    steps-from us (step c u) ∙ ap (λ xs. xs ++ there) (step-more c u) ∙ append_assoc c.steps here there
    ∙ ap (λ xs. c.steps ++ xs) (sym (map-append (λ (t : Transition). t.step) (option_to_list (transition_at c u)) (transitions_from (step c u) us)))

-- the steps of a line of a run
line-plays : (s : Script) (schedule : List ℕ) (v k : ℕ) (x : Section) (line : Line) → slice_get s.sections v ≡ Some x → slice_get x.lines k ≡ Some line
    → Plays x.actor (program x.actor line) (steps_of_line s schedule v k)
line-plays s schedule v k x line here there =
    let p = at_first_line x in
    let is = ahead schedule (start s) v p (slice_get-map at_first_line s.sections v ∙ ap (option_map at_first_line) here) in
    let P : ℕ → Type 0 = λ n. Plays x.actor (program x.actor line) (transitions_of_line v n (transitions_from (start s) schedule)) in
    let place : 0 + 1 + k ≡ k + 1 = omega arith in
    subst P place (plays-same x.actor _ (program x.actor line) _ (λ os. still-fresh p k line os refl) (is.left k line there))

-- what holds of each line that is there
if_line : (s : Script) (v k : ℕ) (P : Actor → Line → Type 0)
    → ((x : Section) (line : Line) → slice_get s.sections v ≡ Some x → slice_get x.lines k ≡ Some line → P x.actor line) → IfLine s v k P
if_line s v k P h = by (slice_get s.sections v) refl where
  lines : (x : Section) → slice_get s.sections v ≡ Some x → (o : Option Line) → slice_get x.lines k ≡ o → IfSome o (λ line. P x.actor line)
  lines x here None none = tt
  lines x here (Some line) there = h x line here there

  by : (o : Option Section) → slice_get s.sections v ≡ o → IfSome o (λ x. IfSome (slice_get x.lines k) (λ line. P x.actor line))
  by None none = tt
  by (Some x) here = lines x here (slice_get x.lines k) refl

-- a section stands at the lines of the script that it has not done
record IsAt (s : Script) (c : Course) : Type 0 where
  at : (v : ℕ) (p : Progress) → slice_get c.sections v ≡ Some p → (x : Section) × (slice_get s.sections v ≡ Some x) × (p.left ≡ drop p.done x.lines)

-- after a turn of one of them too
turned-at : (s : Script) (c : Course) (v : ℕ) (p : Progress) (t : Turn) → IsAt s c → slice_get c.sections v ≡ Some p
    → ((x : Section) → p.left ≡ drop p.done x.lines → t.progress.left ≡ drop t.progress.done x.lines) → IsAt s (turned c v t)
turned-at s c v p t is here goes = record { at = λ w q there. by w q there (v == w) refl } where
  by : (w : ℕ) (q : Progress) → slice_get (slice_set c.sections v t.progress) w ≡ Some q → (b : Bool) → (v == w) ≡ b
      → (x : Section) × (slice_get s.sections w ≡ Some x) × (q.left ≡ drop q.done x.lines)
  by w q there true same =
      let is_v : v ≡ w = grind (arith, nat_tests) in
      let old = is.at v p here in
      let now : slice_get (slice_set c.sections v t.progress) v ≡ Some t.progress = get-written c.sections v p t.progress here in
      let found : slice_get (slice_set c.sections v t.progress) v ≡ Some q = ap (slice_get (slice_set c.sections v t.progress)) is_v ∙ there in
      let said : t.progress ≡ q = cc in
      let P : Progress → Type 0 = λ q. q.left ≡ drop q.done old.0.lines in
      (old.0, ap (slice_get s.sections) (sym is_v) ∙ old.1, subst P said (goes old.0 old.2))
  by w q there false other = let differs : v ≢ w = grind (arith, nat_tests) in is.at w q (sym (get-others c.sections v w t.progress differs) ∙ there)

-- a turn is of the line at the place of the section, and leaves the section at its lines
record TurnIs (p : Progress) (t : Turn) (lines : List Line) : Type 0 where
  number : t.line ≡ p.done + 1
  there : IsSome (slice_get lines p.done)
  left : t.progress.left ≡ drop t.progress.done lines

turn_is : (s : State) (p : Progress) (t : Turn) (lines : List Line) → p.left ≡ drop p.done lines → turn s p ≡ Some t → TurnIs p t lines
turn_is s p t lines at h = by p.left refl h where
  next : (line : Line) (rest : List Line) (a : Action) (n : Next) → p.left ≡ line ∷ rest → turn_to p rest a (act p.actor a s) n ≡ t → TurnIs p t lines
  next line rest a n first same = subst (λ t. TurnIs p t lines) same (moved n) where
    found : slice_get lines p.done ≡ Some line
    found = get-drop p.done lines rest line (sym at ∙ first)

    is_there : IsSome (slice_get lines p.done)
    is_there = let P : Option Line → Type 0 = λ o. IsSome o in subst P (sym found) refl

    moved : (n : Next) → TurnIs p (turn_to p rest a (act p.actor a s) n) lines
    moved (Do b) = record { number = refl; there = is_there; left = at }
    moved (Say r) = record { number = refl; there = is_there; left = drop-next p.done lines rest line (sym at ∙ first) }

  does : (line : Line) (rest : List Line) → p.left ≡ line ∷ rest → (n : Next) → turn_by s p line rest n ≡ Some t → TurnIs p t lines
  does line rest first (Say r) h = absurd (let no : ⊥ = cc in no)
  does line rest first (Do a) h =
      let n = program p.actor line (p.outcomes ++ (act p.actor a s).outcome ∷ []) in
      let same : turn_to p rest a (act p.actor a s) n ≡ t = cc in
      next line rest a n first same

  by : (left : List Line) → p.left ≡ left → turn_at s p left ≡ Some t → TurnIs p t lines
  by [] none h = absurd (let no : ⊥ = cc in no)
  by (line ∷ rest) first h = does line rest first (program p.actor line p.outcomes) h

-- each transition is of a line that is there
transitions-lines : (s : Script) (vs : List ℕ) (c : Course) → IsAt s c → (i : ℕ) → IfSome (slice_get (transitions_from c vs) i) (IsOfLine s)
transitions-lines s [] c is i = tt
transitions-lines s (u ∷ us) c is i = by (slice_get c.sections u) refl (λ d at j. transitions-lines s us d at j) where
  Rest : Type 0
  Rest = (d : Course) → IsAt s d → (j : ℕ) → IfSome (slice_get (transitions_from d us) j) (IsOfLine s)

  idle : transition_at c u ≡ None → step c u ≡ c → Rest → IfSome (slice_get (transitions_from c (u ∷ us)) i) (IsOfLine s)
  idle none same rest =
      let P : List Transition → Type 0 = λ ts. IfSome (slice_get ts i) (IsOfLine s) in
      subst P (sym (ap (λ o. option_to_list o ++ transitions_from (step c u) us) none ∙ ap (λ d. transitions_from d us) same)) (rest c is i)

  first : (d : Transition) (e : Course) → IsOfLine s d → ((j : ℕ) → IfSome (slice_get (transitions_from e us) j) (IsOfLine s)) → (i : ℕ) → IfSome (slice_get (d ∷ transitions_from e us) i) (IsOfLine s)
  first d e here rest zero = here
  first d e here rest (suc j) = rest j

  turns : (p : Progress) → slice_get c.sections u ≡ Some p → (t : Option Turn) → turn c.state p ≡ t → Rest → IfSome (slice_get (transitions_from c (u ∷ us)) i) (IsOfLine s)
  turns p here None none rest =
      idle (ap (λ o. option_and_then (λ p. option_map (transition_of c.state u p) (turn c.state p)) o) here ∙ ap (option_map (transition_of c.state u p)) none)
      (ap (λ o. after_turn c u (option_and_then (turn c.state) o)) here ∙ ap (after_turn c u) none) rest
  turns p here (Some t) some rest =
      let at = is.at u p here in
      let facts = turn_is c.state p t at.0.lines at.2 some in
      let d = transition_of c.state u p t in
      let transition : transition_at c u ≡ Some d =
      ap (λ o. option_and_then (λ p. option_map (transition_of c.state u p) (turn c.state p)) o) here ∙ ap (option_map (transition_of c.state u p)) some in
      let course : step c u ≡ turned c u t = ap (λ o. after_turn c u (option_and_then (turn c.state) o)) here ∙ ap (after_turn c u) some in
      let P : List Transition → Type 0 = λ ts. IfSome (slice_get ts i) (IsOfLine s) in
      let There : Option Section → Type 0 = λ o. IsSome (option_and_then (λ (x : Section). slice_get x.lines p.done) o) in
      subst P (sym (ap (λ o. option_to_list o ++ transitions_from (step c u) us) transition ∙ ap (λ e. d ∷ transitions_from e us) course))
      (first d (turned c u t) (record { place = p.done; number = facts.number; there = subst There (sym at.1) facts.there })
      (rest (turned c u t) (turned-at s c u p t is here (λ x left. (turn_is c.state p t x.lines left some).left))) i)

  by : (o : Option Progress) → slice_get c.sections u ≡ o → Rest → IfSome (slice_get (transitions_from c (u ∷ us)) i) (IsOfLine s)
  by None there rest =
      idle (ap (λ o. option_and_then (λ p. option_map (transition_of c.state u p) (turn c.state p)) o) there)
      (ap (λ o. after_turn c u (option_and_then (turn c.state) o)) there) rest
  by (Some p) here rest = turns p here (turn c.state p) refl rest

-- every section stands at its first line when a run starts
starts-at : (s : Script) → IsAt s (start s)
starts-at s = record { at = λ v p here. by v p (slice_get s.sections v) refl (sym (slice_get-map at_first_line s.sections v) ∙ here) } where
  by : (v : ℕ) (p : Progress) (o : Option Section) → slice_get s.sections v ≡ o → option_map at_first_line o ≡ Some p → (x : Section) × (slice_get s.sections v ≡ Some x) × (p.left ≡ drop p.done x.lines)
  by v p None there h = absurd (let no : ⊥ = cc in no)
  by v p (Some x) there h =
      let same : at_first_line x ≡ p = cc in
      let P : Progress → Type 0 = λ p. p.left ≡ drop p.done x.lines in
      (x, there, subst P same refl)

pub all_replies_have_causes : AllRepliesHaveCauses
all_replies_have_causes s schedule =
    record {
      steps = sym (steps-from schedule (start s));
      lines = transitions-lines s schedule (start s) (starts-at s);
      rules = λ v k. if_line s v k _ (λ x line here there. line-plays s schedule v k x line here there);
      last = λ v k. if_line s v k _ (λ x line here there. reply_is_last x.actor (program x.actor line) (steps_of_line s schedule v k) (line-plays s schedule v k x line here there));
      causes = λ v k r replies. if_line s v k _ (λ x line here there. λ may.
          has_cause x.actor line (steps_of_line s schedule v k) r may (record { plays = line-plays s schedule v k x line here there; replies = replies }));
    }
