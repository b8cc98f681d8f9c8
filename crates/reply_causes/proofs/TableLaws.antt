-- Laws of tables of causes: each part of a program agrees with its row.
use Rattle.std.proofs.Common.{◌≡◌, ℕ, ◌+◌, Bool, true, false, ◌||◌, cond, List, [], ◌∷◌, ◌==◌, length, drop, Option, Some, None, refl, sym, ap, ◌∙◌, subst}
use Rattle.std.specs.Prelude.{unwrap_or, is_none}
use Rattle.std.proofs.lemmas.List.{drop-map}
use Rattle.std.proofs.Math.Seq.{drop-drop}
use Rattle.argo_base.specs.declared.errno.Errno.{Errno}
use Rattle.argo_base.specs.declared.errno.Errno.TheVariants.{Fault as efault}
use Rattle.argo_base.specs.declared.piece.Piece.{Piece}
use Rattle.argo_base.specs.Pieces.{pieces}
use Rattle.argo_model.specs.declared.scripts.Actor.{Actor}
use Rattle.argo_model.specs.declared.scripts.Actor.TheVariants.{Vcpu}
use Rattle.argo_model.specs.declared.action.Action.{Action}
use Rattle.argo_model.specs.declared.action.Action.TheVariants.{Rest}
use Rattle.argo_model.specs.declared.action.Outcome.{Outcome}
use Rattle.argo_model.specs.declared.action.Outcome.TheVariants.{Done, Bytes, Fault, Refused, Accepted, Swept, NoMore, Answer, Flag, Gone}
use Rattle.argo_model.specs.declared.reply.Reply.{Reply}
use Rattle.argo_model.specs.declared.reply.Reply.TheVariants.{Gone as gone}
use Rattle.argo_model.specs.Rules.State.{State, Domain, Live, domain_of}
use Rattle.argo_model.specs.Rules.Act.{act, act_of, act_if_live, act_if_there}
use Rattle.argo_model.specs.Rules.Effects.{Change, refuse_if}
use Rattle.argo_model.specs.Rules.Outcomes.{is_gone}
use Rattle.argo_model.specs.Programs.Asks.{Rests, Say, ask, fetch_all, refuse_if as refuses_if, refuse_at_once_if, read, say_done, unless_gone}
use Rattle.argo_model.specs.Programs.Recv.{end_if}
use Rattle.argo_model.specs.Laws.Transitions.{Transition}
use Rattle.argo_model.specs.Laws.SendCauses.{found, says, row}
use Rattle.reply_causes.specs.Tables.{last_state, unless_lost, case, zero_reply}
use Rattle.reply_causes.proofs.StepLaws.{Ends, Asked, By, asked, Tells, told, said, vanished, any_gone, befores, last-drop, Over, Lost as Vanished, Replied, always}
use Rattle.reply_causes.proofs.FetchLaws.{Fetched, Lost, Missed, Found, fetch_all-ends}

-- a line that is over has its cause
pub over-cause : (q : Reply) (ts : List Transition) (r : Reply) → Over q ts r → r ≡ unless_lost ts q
over-cause q ts r (Vanished some same) = sym same ∙ sym (ap (λ b. cond b gone q) some)
over-cause q ts r (Replied none same) = sym same ∙ sym (ap (λ b. cond b gone q) none)

-- so it is where it is over after some steps that were not `Gone`
pub over-later : (q : Reply) (n : ℕ) (ts : List Transition) (r : Reply) → any_gone ts ≡ any_gone (drop n ts) → Over q (drop n ts) r → Over q ts r
over-later q n ts r g (Vanished some same) = Vanished (g ∙ some) same
over-later q n ts r g (Replied none same) = Replied (g ∙ none) same

pub over-same : (p q : Reply) (ts : List Transition) (r : Reply) → p ≡ q → Over p ts r → Over q ts r
over-same p q ts r same h = let P : Reply → Type 0 = λ q. Over q ts r in subst P same h

-- a reply that is said at once
pub says-over : (actor : Actor) (q : Reply) (ts : List Transition) (r : Reply) → Ends actor (λ os. Say q) ts r → Over q ts r
says-over actor q ts r h = let end = said actor q ts r h in Replied (ap any_gone end.0) end.1

-- a test that refuses
pub refuses-over : (actor : Actor) (b : Bool) (e : Errno) (q : Reply) (k : Rests) (ts : List Transition) (r : Reply) → Ends actor (λ os. refuses_if b e k os) ts r
    → (Ends actor k ts r → Over q ts r) → Over (row b e q) ts r
refuses-over actor true e q k ts r h later = says-over actor (says e) ts r h
refuses-over actor false e q k ts r h later = later h

-- one that refuses before any step
pub at_once-over : (actor : Actor) (b : Bool) (e : Errno) (q : Reply) (k : Rests) (ts : List Transition) (r : Reply) → Ends actor (λ os. refuse_at_once_if b e k os) ts r
    → (Ends actor k ts r → Over q ts r) → Over (row b e q) ts r
at_once-over actor true e q k ts r h later = always actor Rest (says e) ts r h
at_once-over actor false e q k ts r h later = later h

-- a range that is fetched
pub fetch-over : (d generation : ℕ) (ps : List Piece) (failed q : Reply) (k : List ℕ → Rests) (ts : List Transition) (r : Reply)
    → Ends (Vcpu d generation) (λ os. fetch_all ps [] (Say failed) k os) ts r
    → (Ends (Vcpu d generation) (k (unwrap_or (found d ps (befores ts)) [])) (drop (length ps) ts) r → Over q (drop (length ps) ts) r)
    → Over (case (is_none (found d ps (befores ts))) failed q) ts r
fetch-over d generation ps failed q k ts r h later = by (fetch_all-ends d generation ps [] failed k ts r h) where
  by : Fetched d generation ps [] failed k ts r → Over (case (is_none (found d ps (befores ts))) failed q) ts r
  by (Lost some same) = Vanished some same
  by (Missed none absent same) = Replied none (ap (λ o. case (is_none o) failed q) absent ∙ same)
  by (Found bs all g rest) =
      let P : List ℕ → Type 0 = λ xs. Ends (Vcpu d generation) (k xs) (drop (length ps) ts) r in
      over-same q (case (is_none (found d ps (befores ts))) failed q) ts r (sym (ap (λ o. case (is_none o) failed q) all))
      (over-later q (length ps) ts r g (later (subst P (sym (ap (λ o. unwrap_or o []) all)) rest)))

pub read-over : (d generation at n : ℕ) (q : Reply) (k : List ℕ → Rests) (ts : List Transition) (r : Reply)
    → Ends (Vcpu d generation) (λ os. read at n k os) ts r
    → (Ends (Vcpu d generation) (k (unwrap_or (found d (pieces at n) (befores ts)) [])) (drop (length (pieces at n)) ts) r → Over q (drop (length (pieces at n)) ts) r)
    → Over (row (is_none (found d (pieces at n) (befores ts))) efault q) ts r
read-over d generation at n q k ts r h later = fetch-over d generation (pieces at n) (says efault) q k ts r h later

-- what an act answers: that its caller is gone, or what the reader says of it
pub data Answers (f : Outcome → Rests) (o : Outcome) (q : Reply) : Type 0 where
  Vanishes : o ≡ Gone → Answers f o q
  Answered : Tells f o q → Answers f o q

-- a line that ends with an act, after n steps
pub act-over : (actor : Actor) (a : Action) (f : Outcome → Rests) (q : State → Reply) (n : ℕ) (ts : List Transition) (r : Reply)
    → ((o : Outcome) (xs : List Transition) → Ends actor (λ os. unless_gone o f os) xs r → xs ≡ [])
    → ((s : State) → Answers f (act actor a s).outcome (q s))
    → Ends actor (λ os. ask a f os) (drop n ts) r → Over (q (last_state (befores ts))) (drop n ts) r
act-over actor a f q n ts r closes answers h = first (asked actor a f (drop n ts) r h) where
  first : Asked actor a f (drop n ts) r → Over (q (last_state (befores ts))) (drop n ts) r
  first (By t later split does end) = by (answers t.before) where
    none : later ≡ []
    none = closes t.step.outcome later end

    at : last_state (befores ts) ≡ t.before
    at = ap (λ o. unwrap_or o []) (last-drop None n (befores ts) t.before (drop-map (λ (d : Transition). d.before) n ts ∙ ap befores (split ∙ ap (λ xs. t ∷ xs) none)))

    by : Answers f (act actor a t.before).outcome (q t.before) → Over (q (last_state (befores ts))) (drop n ts) r
    by (Vanishes is) =
        Vanished (ap any_gone split ∙ ap (λ o. is_gone o || any_gone later) (does.outcome ∙ is)) (vanished actor t.step.outcome f later r (does.outcome ∙ is) end).1
    by (Answered tells) =
        let E : Outcome → Type 0 = λ o. Ends actor (λ os. unless_gone o f os) later r in
        let same = told actor f (act actor a t.before).outcome (q t.before) later r tells (subst E does.outcome end) in
        Replied (ap any_gone split ∙ ap (λ o. is_gone o || any_gone later) does.outcome ∙ ap (λ b. b || any_gone later) tells.stays ∙ ap any_gone same.0) (ap q at ∙ same.1)

-- an act of a virtual CPU, whose domain lives or is gone
pub at_life : (s : State) (d generation : ℕ) (a : Action) (f : Outcome → Rests) (q : Reply)
    → ((x : Domain) (live : Live) → domain_of s d ≡ Some x → x.life ≡ Some live → Answers f (act_of s d x live a).outcome q)
    → Answers f (act (Vcpu d generation) a s).outcome q
at_life s d generation a f q acts = by (domain_of s d) refl where
  life : (x : Domain) → domain_of s d ≡ Some x → (b : Bool) (l : Option Live) → x.life ≡ l → Answers f (act_if_live s d x (cond b l None) a).outcome q
  life x here false l is = Vanishes refl
  life x here true None is = Vanishes refl
  life x here true (Some live) is = acts x live here is

  by : (o : Option Domain) → domain_of s d ≡ o → Answers f (act_if_there s d generation o a).outcome q
  by None here = Vanishes refl
  by (Some x) here = life x here (x.generation == generation) x.life refl

-- an act that is done or refused
pub refused-tells : (e : Errno) → Tells say_done (Refused e) (says e)
refused-tells e = record { stays = refl; says = refl }

pub done-tells : Tells say_done Done zero_reply
done-tells = record { stays = refl; says = refl }

-- a test that refuses in an act
pub tells_if : {X : Type 0} (b : Bool) (e : Errno) (c : Change X) (q : Reply) → Tells say_done c.outcome q → Tells say_done (refuse_if b e c).outcome (row b e q)
tells_if true e c q h = refused-tells e
tells_if false e c q h = h

-- no step follows such an act
pub done_closes : (actor : Actor) (o : Outcome) (ts : List Transition) (r : Reply) → Ends actor (λ os. unless_gone o say_done os) ts r → ts ≡ []
done_closes actor Done ts r h = (said actor zero_reply ts r h).0
done_closes actor (Bytes bs) ts r h = (said actor zero_reply ts r h).0
done_closes actor Fault ts r h = (said actor zero_reply ts r h).0
done_closes actor (Refused e) ts r h = (said actor (says e) ts r h).0
done_closes actor (Accepted n) ts r h = (said actor zero_reply ts r h).0
done_closes actor (Swept serial) ts r h = (said actor zero_reply ts r h).0
done_closes actor NoMore ts r h = (said actor zero_reply ts r h).0
done_closes actor (Answer a) ts r h = (said actor zero_reply ts r h).0
done_closes actor (Flag b) ts r h = (said actor zero_reply ts r h).0
done_closes actor Gone ts r h = (said actor gone ts r h).0

-- a test that replies
pub replies-over : (actor : Actor) (b : Bool) (p q : Reply) (k : Rests) (ts : List Transition) (r : Reply) → Ends actor (λ os. end_if b (Say p) k os) ts r
    → (Ends actor k ts r → Over q ts r) → Over (case b p q) ts r
replies-over actor true p q k ts r h later = says-over actor p ts r h
replies-over actor false p q k ts r h later = later h

-- a range that is fetched after n steps
pub fetch-later : (d generation : ℕ) (ps : List Piece) (failed q : Reply) (k : List ℕ → Rests) (n : ℕ) (ts : List Transition) (r : Reply)
    → Ends (Vcpu d generation) (λ os. fetch_all ps [] (Say failed) k os) (drop n ts) r
    → (Ends (Vcpu d generation) (k (unwrap_or (found d ps (drop n (befores ts))) [])) (drop (n + length ps) ts) r → Over q (drop (n + length ps) ts) r)
    → Over (case (is_none (found d ps (drop n (befores ts)))) failed q) (drop n ts) r
fetch-later d generation ps failed q k n ts r h later =
    let P : List State → Type 0 = λ states. (Ends (Vcpu d generation) (k (unwrap_or (found d ps states) [])) (drop (n + length ps) ts) r → Over q (drop (n + length ps) ts) r)
    → Over (case (is_none (found d ps states)) failed q) (drop n ts) r in
    let Q : List Transition → Type 0 = λ xs. (Ends (Vcpu d generation) (k (unwrap_or (found d ps (befores (drop n ts))) [])) xs r → Over q xs r)
    → Over (case (is_none (found d ps (befores (drop n ts)))) failed q) (drop n ts) r in
    subst P (sym (drop-map (λ (t : Transition). t.before) n ts)) (
    subst Q (drop-drop (length ps) n ts) (fetch-over d generation ps failed q k (drop n ts) r h)) later
