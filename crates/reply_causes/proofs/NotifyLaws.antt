-- A notify has its cause.
use Rattle.std.proofs.Common.{◌≡◌, ℕ, zero, suc, ◌+◌, ◌==◌, Bool, true, false, not, nat_lt, ◌||◌, cond, List, [], ◌∷◌, length, drop, Option, Some, None, refl, sym, ap, ◌∙◌, subst, arith}
use Rattle.std.specs.Prelude.{unwrap_or, is_none, option_map, option_and_then}
use Rattle.std.proofs.lemmas.List.{drop-map}
use Rattle.std.proofs.Math.Seq.{drop-drop}
use Rattle.std.proofs.lemmas.Bool.Decides.{nat_tests}
use Rattle.argo_base.specs.declared.errno.Errno.TheVariants.{Acces, Fault as efault, NoDev, Inval}
use Rattle.argo_base.specs.declared.piece.Piece.{Piece}
use Rattle.argo_base.specs.declared.ring_key.RingKey.{RingKey}
use Rattle.argo_base.specs.Layout.{u16_at, u32_at, answer_bytes}
use Rattle.argo_base.specs.Match.{match_of}
use Rattle.argo_base.specs.Pieces.{pieces}
use Rattle.argo_model.specs.declared.scripts.Actor.{Actor}
use Rattle.argo_model.specs.declared.scripts.Actor.TheVariants.{Vcpu}
use Rattle.argo_model.specs.declared.action.Action.{Action}
use Rattle.argo_model.specs.declared.action.Action.TheVariants.{Sweep, Query}
use Rattle.argo_model.specs.declared.action.Answer.{Answer}
use Rattle.argo_model.specs.declared.action.Outcome.{Outcome}
use Rattle.argo_model.specs.declared.action.Outcome.TheVariants.{Refused, Swept, NoMore, Answer as Answered, Gone}
use Rattle.argo_model.specs.declared.reply.Reply.{Reply}
use Rattle.argo_model.specs.declared.reply.Reply.TheVariants.{Gone as gone}
use Rattle.argo_model.specs.Rules.State.{State, Domain, Live, Ring, domain_of, is_on}
use Rattle.argo_model.specs.Rules.Act.{act_if_there, act_if_live}
use Rattle.argo_model.specs.Rules.Effects.{change_in, refuse_if}
use Rattle.argo_model.specs.Rules.Limits.{most_rings, most_entries}
use Rattle.argo_model.specs.Rules.Outcomes.{is_gone}
use Rattle.argo_model.specs.Rules.Query.{query_domain, query_life, query_match}
use Rattle.argo_model.specs.Rules.Sweep.{next_ring, sweep_found}
use Rattle.argo_model.specs.Programs.Asks.{Rests, ask, read, unless_gone}
use Rattle.argo_model.specs.Programs.Notify.{notify, sweep_rings, if_swept, if_answered, answer_entry, answer_entries, entries_at, notify_head, notify_entries}
use Rattle.argo_model.specs.Programs.Register.{has_more}
use Rattle.argo_model.specs.Laws.Transitions.{Transition}
use Rattle.argo_model.specs.Laws.SendCauses.{found, row, says}
use Rattle.reply_causes.specs.Tables.{Call, zero_reply}
use Rattle.reply_causes.specs.NotifyCauses.{ring_after, swept, after_sweeps, has_pad, entry_steps, question_steps, entry_looked, cause_of_entries, cause_of_head, cause_of_questions, cause_after_sweeps, cause_of_notify}
use Rattle.reply_causes.specs.Causes.{NotifiesHaveCauses}
use Rattle.reply_causes.proofs.StepLaws.{Ends, ends, Performs, performs, said, any_gone, befores, Over, Lost, Replied}
use Rattle.reply_causes.proofs.TableLaws.{over-cause, over-same, says-over, refuses-over, at_once-over, read-over}
use Rattle.reply_causes.proofs.MemoryLaws.{puts-over}
use Rattle.reply_causes.proofs.TestLaws.{same-eqb, get-drop}

-- what follows a step that was not `Gone`
over-next : (p q : Reply) (t : Transition) (ts : List Transition) (r : Reply) → is_gone t.step.outcome ≡ false → q ≡ p → Over p ts r → Over q (t ∷ ts) r
over-next p q t ts r stays same (Lost some is) = Lost (ap (λ b. b || any_gone ts) stays ∙ some) is
over-next p q t ts r stays same (Replied none is) = Replied (ap (λ b. b || any_gone ts) stays ∙ none) (same ∙ is)

-- what a sweep comes to, by whether the caller is on, and the ring that is next
data SweepIs (on : Bool) (ring : Option (RingKey × Ring)) (o : Outcome) : Type 0 where
  Vanishes : o ≡ Gone → SweepIs on ring o
  Off : on ≡ false → o ≡ Refused NoDev → SweepIs on ring o
  Finds : (e : RingKey × Ring) → on ≡ true → ring ≡ Some e → o ≡ Swept e.1.serial → SweepIs on ring o
  Finishes : on ≡ true → ring ≡ None → o ≡ NoMore → SweepIs on ring o

sweep_at : (d generation serial : ℕ) (s : State) (o : Option Domain)
    → SweepIs (unwrap_or (option_map (λ (x : Domain). x.on) o) false) (option_and_then (λ (live : Live). next_ring serial live.rings) (option_and_then (λ (x : Domain). x.life) o))
    (act_if_there s d generation o (Sweep serial)).outcome
sweep_at d generation serial s None = Vanishes refl
sweep_at d generation serial s (Some x) = by (x.generation == generation) x.life where
  ring : (live : Live) (on : Bool) (e : Option (RingKey × Ring)) → SweepIs on e (change_in s d (refuse_if (not on) NoDev (sweep_found live e))).outcome
  ring live false e = Off refl refl
  ring live true None = Finishes refl refl refl
  ring live true (Some e) = Finds e refl refl refl

  by : (b : Bool) (life : Option Live) → SweepIs x.on (option_and_then (λ (live : Live). next_ring serial live.rings) life) (act_if_live s d x (cond b life None) (Sweep serial)).outcome
  by false life = Vanishes refl
  by true None = Vanishes refl
  by true (Some live) = ring live x.on (next_ring serial live.rings)

-- the sweeps, and what follows them
sweeps-over : (c : Call) (generation n serial : ℕ) (k : Rests) (ts : List Transition) (r : Reply)
    → ((xs : List Transition) → Ends (Vcpu c.caller generation) k xs r → Over (cause_of_questions c (befores xs)) xs r)
    → Ends (Vcpu c.caller generation) (λ os. sweep_rings n serial k os) ts r → Over (cause_after_sweeps c (after_sweeps c.caller n serial (befores ts))) ts r
sweeps-over c generation zero serial k ts r later h = later ts h
sweeps-over c generation (suc n) serial k [] r later h = absurd (let no : ⊥ = cc in no)
sweeps-over c generation (suc n) serial k (t ∷ ts) r later h =
    by (let P : Outcome → Type 0 = λ o. SweepIs (is_on t.before d) (ring_after t.before d serial) o in
    subst P (sym does.outcome) (sweep_at d generation serial t.before (domain_of t.before d)))
    (λ next rest. sweeps-over c generation n next k ts r later rest) where
      d : ℕ
      d = c.caller

      actor : Actor
      actor = Vcpu d generation

      does : Performs actor (Sweep serial) t
      does = performs actor (Sweep serial) (sweep_rings (suc n) serial k) t refl h.0

      reader : Outcome → Rests
      reader = if_swept (λ next os. sweep_rings n next k os) k

      rest : (o : Outcome) → t.step.outcome ≡ o → Ends actor (λ os. unless_gone o reader os) ts r
      rest o is = let P : Outcome → Type 0 = λ x. Ends actor (λ os. unless_gone x reader os) ts r in subst P is h.1

      cause : Bool → Option (RingKey × Ring) → Reply
      cause on ring = cause_after_sweeps c (cond (not on) None (swept ring (λ next. after_sweeps d n next (befores ts)) (befores ts)))

      cause_is : (on : Bool) (ring : Option (RingKey × Ring)) → is_on t.before d ≡ on → ring_after t.before d serial ≡ ring
          → cause (is_on t.before d) (ring_after t.before d serial) ≡ cause on ring
      cause_is on ring is there = ap (λ b. cause b (ring_after t.before d serial)) is ∙ ap (cause on) there

      by : SweepIs (is_on t.before d) (ring_after t.before d serial) t.step.outcome
          → ((next : ℕ) → Ends actor (λ os. sweep_rings n next k os) ts r → Over (cause_after_sweeps c (after_sweeps d n next (befores ts))) ts r)
          → Over (cause (is_on t.before d) (ring_after t.before d serial)) (t ∷ ts) r
      by (Vanishes is) more = let end = said actor gone ts r (rest Gone is) in Lost (ap (λ o. is_gone o || any_gone ts) is) end.1
      by (Off off is) more =
          let end = said actor (says NoDev) ts r (rest (Refused NoDev) is) in
          Replied (ap (λ o. is_gone o || any_gone ts) is ∙ ap any_gone end.0) (cause_is false (ring_after t.before d serial) off refl ∙ end.1)
      by (Finds e on there is) more =
          over-next (cause_after_sweeps c (after_sweeps d n e.1.serial (befores ts))) _ t ts r (ap is_gone is) (cause_is true (Some e) on there) (more e.1.serial (rest (Swept e.1.serial) is))
      by (Finishes on there is) more =
          over-next (cause_of_questions c (befores ts)) _ t ts r (ap is_gone is) (cause_is true None on there) (later ts (rest NoMore is))

-- what a question comes to
data QueryIs (on : Bool) (o : Outcome) : Type 0 where
  Unheard : o ≡ Gone → QueryIs on o
  Denied : on ≡ false → o ≡ Refused NoDev → QueryIs on o
  Told : (a : Answer) → on ≡ true → o ≡ Answered a → QueryIs on o

query_at : (d generation to port need : ℕ) (s : State) (o : Option Domain)
    → QueryIs (unwrap_or (option_map (λ (x : Domain). x.on) o) false) (act_if_there s d generation o (Query to port need)).outcome
query_at d generation to port need s None = Unheard refl
query_at d generation to port need s (Some x) = by (x.generation == generation) x.life where
  -- a question that may be asked has an answer
  ring : (live : Live) (e : Option (RingKey × Ring)) → (a : Answer) × ((query_match live d need e).outcome ≡ Answered a)
  ring live None = (_, refl)
  ring live (Some e) = (_, refl)

  life_of : (l : Option Live) → (a : Answer) × ((query_life d port need l).outcome ≡ Answered a)
  life_of None = (_, refl)
  life_of (Some live) = ring live (match_of live.rings port d)

  on_or_off : (y : Domain) (b : Bool) → (a : Answer) × ((cond b (query_life d port need y.life) (query_domain d port need None)).outcome ≡ Answered a)
  on_or_off y true = life_of y.life
  on_or_off y false = (_, refl)

  answer : (y : Option Domain) → (a : Answer) × ((query_domain d port need y).outcome ≡ Answered a)
  answer None = (_, refl)
  answer (Some y) = on_or_off y y.on

  asks : (on : Bool) → QueryIs on (change_in s to (refuse_if (not on) NoDev (query_domain d port need (domain_of s to)))).outcome
  asks false = Denied refl refl
  asks true = let told = answer (domain_of s to) in Told told.0 refl told.1

  by : (b : Bool) (life : Option Live) → QueryIs x.on (act_if_live s d x (cond b life None) (Query to port need)).outcome
  by false life = Unheard refl
  by true None = Unheard refl
  by true (Some live) = asks x.on

-- the question of an entry, with its answer, and what follows
question-over : (d generation at : ℕ) (entry : List ℕ) (q : Reply) (more : Rests) (ts : List Transition) (r : Reply)
    → (Ends (Vcpu d generation) more (drop (length (pieces (at + 8) 12)) (drop (question_steps at) ts)) r → Over q (drop (length (pieces (at + 8) 12)) (drop (question_steps at) ts)) r)
    → Ends (Vcpu d generation) (λ os. ask (Query (u16_at entry 4) (u32_at entry 0) (u32_at entry 12)) (if_answered at more) os) (drop (entry_steps at) ts) r
    → Over (row (not (is_on (entry_looked d at (befores ts)).state d)) NoDev (row (is_none (entry_looked d at (befores ts)).answer) efault q)) (drop (entry_steps at) ts) r
question-over d generation at entry q more ts r later h = first (drop n ts) refl h where
  actor : Actor
  actor = Vcpu d generation

  action : Action
  action = Query (u16_at entry 4) (u32_at entry 0) (u32_at entry 12)

  n : ℕ
  n = entry_steps at

  ps : List Piece
  ps = pieces (at + 8) 12

  state : State
  state = (entry_looked d at (befores ts)).state

  answer : Option (List ℕ)
  answer = (entry_looked d at (befores ts)).answer

  rows : Bool → Reply
  rows on = row (not on) NoDev (row (is_none answer) efault q)

  asks : (t : Transition) (xs : List Transition) → drop n ts ≡ t ∷ xs → Ends actor (λ os. ask action (if_answered at more) os) (t ∷ xs) r → Over (rows (is_on state d)) (t ∷ xs) r
  asks t xs split h =
      by (let P : Outcome → Type 0 = λ o. QueryIs (is_on t.before d) o in
      subst P (sym does.outcome) (query_at d generation (u16_at entry 4) (u32_at entry 0) (u32_at entry 12) t.before (domain_of t.before d))) where
        does : Performs actor action t
        does = performs actor action (λ os. ask action (if_answered at more) os) t refl h.0

        rest : (o : Outcome) → t.step.outcome ≡ o → Ends actor (λ os. unless_gone o (if_answered at more) os) xs r
        rest o is = let P : Outcome → Type 0 = λ x. Ends actor (λ os. unless_gone x (if_answered at more) os) xs r in subst P is h.1

        at_state : state ≡ t.before
        at_state = ap (λ o. unwrap_or o []) (get-drop n (befores ts) (befores xs) t.before (drop-map (λ (t : Transition). t.before) n ts ∙ ap befores split))

        follows : drop (question_steps at) ts ≡ xs
        follows = sym (drop-drop 1 n ts) ∙ ap (drop 1) split

        rows_are : (on : Bool) → is_on t.before d ≡ on → rows (is_on state d) ≡ rows on
        rows_are on is = ap (λ s. rows (is_on s d)) at_state ∙ ap rows is

        by : QueryIs (is_on t.before d) t.step.outcome → Over (rows (is_on state d)) (t ∷ xs) r
        by (Unheard is) = let end = said actor gone xs r (rest Gone is) in Lost (ap (λ o. is_gone o || any_gone xs) is) end.1
        by (Denied off is) =
            let end = said actor (says NoDev) xs r (rest (Refused NoDev) is) in
            Replied (ap (λ o. is_gone o || any_gone xs) is ∙ ap any_gone end.0) (rows_are false off ∙ end.1)
        by (Told a on is) =
            let P : List State → Type 0 = λ states. Over (row (is_none (found d ps states)) efault q) xs r in
            let Q : List Transition → Type 0 = λ xs. Ends actor more (drop (length ps) xs) r → Over q (drop (length ps) xs) r in
            over-next (row (is_none answer) efault q) _ t xs r (ap is_gone is) (rows_are true on) (
            subst P (ap befores (sym follows) ∙ sym (drop-map (λ (t : Transition). t.before) (question_steps at) ts)) (
            puts-over d generation ps (answer_bytes a.flags 0 a.need a.most) (says efault) q more xs r (rest (Answered a) is) (subst Q follows later)))

  first : (xs : List Transition) → drop n ts ≡ xs → Ends actor (λ os. ask action (if_answered at more) os) xs r → Over (rows (is_on state d)) xs r
  first [] split h = absurd (let no : ⊥ = cc in no)
  first (t ∷ xs) split h = asks t xs split h

-- the entries at these addresses
entries-over : (d generation : ℕ) (ats : List ℕ) (ts : List Transition) (r : Reply) → Ends (Vcpu d generation) (λ os. answer_entries ats os) ts r
    → Over (cause_of_entries d ats (befores ts)) ts r
entries-over d generation [] ts r h = says-over (Vcpu d generation) zero_reply ts r h
entries-over d generation (at ∷ ats) ts r h =
    read-over d generation at 20 _ (λ entry os. answer_entry at entry (λ os. answer_entries ats os) os) ts r h (λ h.
    refuses-over (Vcpu d generation) (has_pad entry) Inval _ _ (drop (entry_steps at) ts) r h (λ h.
    question-over d generation at entry (cause_of_entries d ats (drop (question_steps at + length (pieces (at + 8) 12)) (befores ts))) (λ os. answer_entries ats os) ts r
    (λ h.
    over-same _ _ _ r (ap (cause_of_entries d ats) (ap befores (drop-drop (length (pieces (at + 8) 12)) (question_steps at) ts)
    ∙ sym (drop-map (λ (t : Transition). t.before) (question_steps at + length (pieces (at + 8) 12)) ts)))
    (entries-over d generation ats (drop (length (pieces (at + 8) 12)) (drop (question_steps at) ts)) r h)) h)) where
      entry : List ℕ
      entry = unwrap_or (found d (pieces at 20) (befores ts)) []

-- the questions, where there are any
questions-over : (c : Call) (generation : ℕ) (ts : List Transition) (r : Reply) → Ends (Vcpu c.caller generation) (λ os. notify_entries c.a1 os) ts r
    → Over (cause_of_questions c (befores ts)) ts r
questions-over c generation ts r h = by c.a1 refl h where
  actor : Actor
  actor = Vcpu c.caller generation

  n : ℕ
  n = length (pieces c.a1 8)

  head : List ℕ
  head = unwrap_or (found c.caller (pieces c.a1 8) (befores ts)) []

  choice : Bool → Reply
  choice b = cond b zero_reply (cause_of_head c (found c.caller (pieces c.a1 8) (befores ts)) (befores ts))

  heads : Ends actor (λ os. read c.a1 8 (notify_head c.a1) os) ts r → Over (cause_of_head c (found c.caller (pieces c.a1 8) (befores ts)) (befores ts)) ts r
  heads h =
      read-over c.caller generation c.a1 8 _ (notify_head c.a1) ts r h (λ h.
      refuses-over actor (not (u32_at head 4 == 0)) Inval _ _ (drop n ts) r h (λ h.
      refuses-over actor (nat_lt most_entries (u32_at head 0)) Acces _ _ (drop n ts) r h (λ h.
      over-same _ _ (drop n ts) r (ap (cause_of_entries c.caller (entries_at c.a1 (u32_at head 0))) (sym (drop-map (λ (t : Transition). t.before) n ts)))
      (entries-over c.caller generation (entries_at c.a1 (u32_at head 0)) (drop n ts) r h))))

  by : (a1 : ℕ) → c.a1 ≡ a1 → Ends actor (λ os. notify_entries a1 os) ts r → Over (choice (c.a1 == 0)) ts r
  by zero is h = let none : (c.a1 == 0) ≡ true = same-eqb c.a1 0 is in over-same zero_reply _ ts r (sym (ap choice none)) (says-over actor zero_reply ts r h)
  by (suc a) is h =
      let some : (c.a1 == 0) ≡ false = grind (arith, nat_tests) in
      let P : ℕ → Type 0 = λ a1. Ends actor (λ os. read a1 8 (notify_head a1) os) ts r in
      over-same _ _ ts r (sym (ap choice some)) (heads (subst P (sym is) h))

notify-over : (c : Call) (generation : ℕ) (ts : List Transition) (r : Reply) → Ends (Vcpu c.caller generation) (λ os. notify c.a1 c.a2 c.a3 c.a4 os) ts r
    → Over (cause_of_notify c (befores ts)) ts r
notify-over c generation ts r h =
    at_once-over (Vcpu c.caller generation) (has_more c.a2 c.a3 c.a4) Inval _ (λ os. sweep_rings most_rings 0 (notify_entries c.a1) os) ts r h (λ h.
    sweeps-over c generation most_rings 0 (notify_entries c.a1) ts r (λ xs end. questions-over c generation xs r end) h)

pub notifies_have_causes : NotifiesHaveCauses
notifies_have_causes d generation a1 a2 a3 a4 ts r h =
    let c : Call = record { caller = d; a1 = a1; a2 = a2; a3 = a3; a4 = a4 } in
    over-cause (cause_of_notify c (befores ts)) ts r (
    notify-over c generation ts r (ends (Vcpu d generation) (λ os. notify a1 a2 a3 a4 os) ts r h))
