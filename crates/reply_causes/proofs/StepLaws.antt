-- Laws of the steps of a line that comes to its reply.
use Rattle.std.proofs.Common.{◌≡◌, ℕ, zero, suc, Bool, true, false, ◌||◌, List, [], ◌∷◌, drop, map, Option, Some, refl, sym, ap, ◌∙◌, subst}
use Rattle.std.specs.List.{list_any, last_or}
use Rattle.argo_model.specs.declared.scripts.Actor.{Actor}
use Rattle.argo_model.specs.declared.action.Action.{Action}
use Rattle.argo_model.specs.declared.action.Outcome.{Outcome}
use Rattle.argo_model.specs.declared.action.Outcome.TheVariants.{Done, Bytes, Fault, Refused, Accepted, Swept, NoMore, Answer, Flag, Gone}
use Rattle.argo_model.specs.declared.reply.Reply.{Reply}
use Rattle.argo_model.specs.declared.reply.Reply.TheVariants.{Gone as gone}
use Rattle.argo_model.specs.Rules.Act.{act}
use Rattle.argo_model.specs.Rules.Outcomes.{is_gone}
use Rattle.argo_model.specs.Rules.State.{State}
use Rattle.argo_model.specs.Programs.Asks.{Next, Do, Say, Rests, ask, unless_gone}
use Rattle.argo_model.specs.Laws.Transitions.{Transition}
use Rattle.reply_causes.specs.Plays.{reply_in, IsStepOf, Plays, PlaysTo, last_reply}

-- the steps of a program, after which it says the reply
abbrev pub Ends : Actor → Rests → List Transition → Reply → Type 0
Ends actor k [] r = k [] ≡ Say r
Ends actor k (t ∷ ts) r = IsStepOf actor k t × Ends actor (λ os. k (t.step.outcome ∷ os)) ts r

says_it : (n : Next) (r : Reply) → reply_in n ≡ Some r → n ≡ Say r
says_it (Do a) r h = cc
says_it (Say q) r h = let same : q ≡ r = cc in ap Say same

ends_from : (actor : Actor) (k : Rests) (t : Transition) (ts : List Transition) (r : Reply) → Plays actor k (t ∷ ts) → last_reply (t ∷ ts) ≡ Some r → Ends actor k (t ∷ ts) r
ends_from actor k t [] r plays reply = (plays.0, says_it (k (t.step.outcome ∷ [])) r (sym plays.0.reply ∙ reply))
ends_from actor k t (u ∷ ts) r plays reply = (plays.0, ends_from actor (λ os. k (t.step.outcome ∷ os)) u ts r plays.1 reply)

-- a line that plays to a reply ends with it
pub ends : (actor : Actor) (k : Rests) (ts : List Transition) (r : Reply) → PlaysTo actor k ts r → Ends actor k ts r
ends actor k [] r h = let clash = h.replies in absurd (let no : ⊥ = cc in no)
ends actor k (t ∷ ts) r h = ends_from actor k t ts r h.plays h.replies

-- a program that has said its reply has no more steps
pub said : (actor : Actor) (q : Reply) (ts : List Transition) (r : Reply) → Ends actor (λ os. Say q) ts r → (ts ≡ []) × (q ≡ r)
said actor q [] r h = let same : q ≡ r = cc in (refl, same)
said actor q (t ∷ ts) r h = let next = h.0.next in absurd (let no : ⊥ = cc in no)

-- the transition performs this action
pub record Performs (actor : Actor) (a : Action) (t : Transition) : Type 0 where
  pub by_actor : t.actor ≡ actor
  pub action : t.step.action ≡ a
  pub outcome : t.step.outcome ≡ (act actor a t.before).outcome
  pub after : t.after ≡ (act actor a t.before).state

pub performs : (actor : Actor) (a : Action) (k : Rests) (t : Transition) → k [] ≡ Do a → IsStepOf actor k t → Performs actor a t
performs actor a k t asks h =
    let next = h.next in
    let same : t.step.action ≡ a = cc in
    record {
      by_actor = h.by_actor;
      action = same;
      outcome = h.outcome ∙ ap (λ x. (act actor x t.before).outcome) same;
      after = h.after ∙ ap (λ x. (act actor x t.before).state) same;
    }

-- an action that is asked for is the next step, and its outcome goes to its reader
pub data Asked (actor : Actor) (a : Action) (f : Outcome → Rests) (ts : List Transition) (r : Reply) : Type 0 where
  By : (t : Transition) (later : List Transition) → ts ≡ t ∷ later → Performs actor a t → Ends actor (λ os. unless_gone t.step.outcome f os) later r → Asked actor a f ts r

pub asked : (actor : Actor) (a : Action) (f : Outcome → Rests) (ts : List Transition) (r : Reply) → Ends actor (λ os. ask a f os) ts r → Asked actor a f ts r
asked actor a f [] r h = absurd (let no : ⊥ = cc in no)
asked actor a f (t ∷ ts) r h = By t ts refl (performs actor a (λ os. ask a f os) t refl h.0) h.1

-- an outcome of the steps was `Gone`
abbrev pub any_gone : List Transition → Bool
any_gone ts = list_any (λ d. is_gone d.step.outcome) ts

-- the states that the steps found
abbrev pub befores : List Transition → List State
befores ts = map (λ d. d.before) ts

-- the line ends where an outcome was `Gone`
pub vanished : (actor : Actor) (o : Outcome) (f : Outcome → Rests) (ts : List Transition) (r : Reply) → o ≡ Gone → Ends actor (λ os. unless_gone o f os) ts r → (ts ≡ []) × (gone ≡ r)
vanished actor o f ts r is h =
    let P : Outcome → Type 0 = λ x. Ends actor (λ os. unless_gone x f os) ts r in
    said actor gone ts r (subst P is h)

-- the last of the steps, where one alone is left after some
pub last-drop : {A : Type 0} (o : Option A) (n : ℕ) (xs : List A) (x : A) → drop n xs ≡ x ∷ [] → last_or o xs ≡ Some x
last-drop o zero xs x h = ap (last_or o) h
last-drop o (suc n) [] x h = cc
last-drop o (suc n) (y ∷ ys) x h = last-drop (Some y) n ys x h

-- what an outcome comes to at its reader: the line goes on, and has this reply
pub record Tells (f : Outcome → Rests) (o : Outcome) (q : Reply) : Type 0 where
  pub stays : is_gone o ≡ false
  pub says : unless_gone o f [] ≡ Say q

-- then the line ends
pub told : (actor : Actor) (f : Outcome → Rests) (o : Outcome) (q : Reply) (ts : List Transition) (r : Reply) → Tells f o q → Ends actor (λ os. unless_gone o f os) ts r → (ts ≡ []) × (q ≡ r)
told actor f o q [] r h end =
    let says = h.says in
    let same : q ≡ r = cc in
    (refl, same)
told actor f o q (t ∷ ts) r h end =
    let says = h.says in
    let next = end.0.next in
    absurd (let no : ⊥ = cc in no)

-- an outcome is `Gone`, or it goes to its reader
pub data Passes (actor : Actor) (f : Outcome → Rests) (o : Outcome) (ts : List Transition) (r : Reply) : Type 0 where
  Vanishes : o ≡ Gone → Passes actor f o ts r
  Goes : is_gone o ≡ false → Ends actor (λ os. f o os) ts r → Passes actor f o ts r

pub passes : (actor : Actor) (f : Outcome → Rests) (o : Outcome) (ts : List Transition) (r : Reply) → Ends actor (λ os. unless_gone o f os) ts r → Passes actor f o ts r
passes actor f Done ts r h = Goes refl h
passes actor f (Bytes bs) ts r h = Goes refl h
passes actor f Fault ts r h = Goes refl h
passes actor f (Refused e) ts r h = Goes refl h
passes actor f (Accepted n) ts r h = Goes refl h
passes actor f (Swept serial) ts r h = Goes refl h
passes actor f NoMore ts r h = Goes refl h
passes actor f (Answer a) ts r h = Goes refl h
passes actor f (Flag b) ts r h = Goes refl h
passes actor f Gone ts r h = Vanishes refl

-- a line is over: an outcome was `Gone`, or none was, and it has this reply
pub data Over (q : Reply) (ts : List Transition) (r : Reply) : Type 0 where
  Lost : any_gone ts ≡ true → gone ≡ r → Over q ts r
  Replied : any_gone ts ≡ false → q ≡ r → Over q ts r

-- an action after which the line says the same whatever it came to
pub always : (actor : Actor) (a : Action) (q : Reply) (ts : List Transition) (r : Reply) → Ends actor (λ os. ask a (λ o os. Say q) os) ts r → Over q ts r
always actor a q ts r h = first (asked actor a (λ o os. Say q) ts r h) where
  first : Asked actor a (λ o os. Say q) ts r → Over q ts r
  first (By t later split does end) = by (passes actor (λ o os. Say q) t.step.outcome later r end) where
    by : Passes actor (λ o os. Say q) t.step.outcome later r → Over q ts r
    by (Vanishes is) =
        let none = vanished actor t.step.outcome (λ o os. Say q) later r is end in
        Lost (ap any_gone split ∙ ap (λ o. is_gone o || any_gone later) is) none.1
    by (Goes stays rest) =
        let none = said actor q later r rest in
        Replied (ap any_gone split ∙ ap (λ b. b || any_gone later) stays ∙ ap any_gone none.0) none.1
