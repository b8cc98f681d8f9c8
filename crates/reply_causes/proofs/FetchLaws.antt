-- Laws of ranges that are fetched piece by piece.
use Rattle.std.proofs.Common.{◌≡◌, ℕ, suc, ◌+◌, ◌*◌, ◌==◌, Bool, true, false, cond, List, [], ◌∷◌, ◌++◌, length, take, drop, ◌||◌, Option, Some, None, refl, sym, ap, ◌∙◌, subst, append_assoc, append-nil}
use Rattle.std.specs.Prelude.{option_and_then, option_map}
use Rattle.argo_base.specs.declared.piece.Piece.{Piece}
use Rattle.argo_model.specs.declared.scripts.Actor.{Actor}
use Rattle.argo_model.specs.declared.scripts.Actor.TheVariants.{Vcpu}
use Rattle.argo_model.specs.declared.action.Action.TheVariants.{Fetch}
use Rattle.argo_model.specs.declared.action.Outcome.{Outcome}
use Rattle.argo_model.specs.declared.action.Outcome.TheVariants.{Bytes, Fault, Gone}
use Rattle.argo_model.specs.declared.action.Load.{Load}
use Rattle.argo_model.specs.declared.action.Load.TheVariants.{Body, Faulted}
use Rattle.argo_model.specs.declared.reply.Reply.{Reply}
use Rattle.argo_model.specs.declared.reply.Reply.TheVariants.{Gone as gone}
use Rattle.argo_model.specs.Rules.State.{State, Domain, Live, domain_of, has_page}
use Rattle.argo_model.specs.Rules.Act.{act_if_there, act_if_live}
use Rattle.argo_model.specs.Rules.Outcomes.{is_gone}
use Rattle.argo_model.specs.Programs.Asks.{Say, Rests, unless_gone, if_bytes, fetch_all}
use Rattle.argo_model.specs.Programs.Send.{gather}
use Rattle.argo_model.specs.Laws.Transitions.{Transition}
use Rattle.argo_model.specs.Laws.SendCauses.{piece_of, piece_in, found}
use Rattle.reply_causes.proofs.StepLaws.{Ends, Performs, performs, said, any_gone, befores}

-- what a fetch comes to, beside the bytes of the piece in the state that it finds
pub data Look (piece : Option (List ℕ)) (o : Outcome) : Type 0 where
  Vanishes : o ≡ Gone → Look piece o
  Misses : o ≡ Fault → piece ≡ None → Look piece o
  Gives : (bs : List ℕ) → o ≡ Bytes bs → piece ≡ Some bs → Look piece o

look_at : (d generation : ℕ) (s : State) (p : Piece) (o : Option Domain)
    → Look (option_and_then (piece_of p) (option_and_then (λ (x : Domain). x.life) o)) (act_if_there s d generation o (Fetch p.page p.off p.n)).outcome
look_at d generation s p None = Vanishes refl
look_at d generation s p (Some x) = by (x.generation == generation) x.life where
  page : (live : Live) (b : Bool) → Look (cond b (Some (take p.n (drop (4096 * p.page + p.off) live.bytes))) None)
      (cond b (Bytes (take p.n (drop (4096 * p.page + p.off) live.bytes))) Fault)
  page live true = Gives _ refl refl
  page live false = Misses refl refl

  by : (b : Bool) (life : Option Live) → Look (option_and_then (piece_of p) life) (act_if_live s d x (cond b life None) (Fetch p.page p.off p.n)).outcome
  by false life = Vanishes refl
  by true None = Vanishes refl
  by true (Some live) = page live (has_page live p.page)

pub fetched : (d generation : ℕ) (p : Piece) (t : Transition) → Performs (Vcpu d generation) (Fetch p.page p.off p.n) t → Look (piece_in t.before d p) t.step.outcome
fetched d generation p t h =
    let P : Outcome → Type 0 = λ o. Look (piece_in t.before d p) o in
    subst P (sym h.outcome) (look_at d generation t.before p (domain_of t.before d))

-- a range comes to nothing where the line vanishes; or a piece was absent, and the line failed with this reply; or all its bytes were
-- found, and the line went on with them
pub data Fetched (d generation : ℕ) (ps : List Piece) (got : List ℕ) (failed : Reply) (k : List ℕ → Rests) (ts : List Transition) (r : Reply) : Type 0 where
  Lost : any_gone ts ≡ true → gone ≡ r → Fetched d generation ps got failed k ts r
  Missed : any_gone ts ≡ false → found d ps (befores ts) ≡ None → failed ≡ r → Fetched d generation ps got failed k ts r
  Found : (bs : List ℕ) → found d ps (befores ts) ≡ Some bs → any_gone ts ≡ any_gone (drop (length ps) ts)
      → Ends (Vcpu d generation) (k (got ++ bs)) (drop (length ps) ts) r → Fetched d generation ps got failed k ts r

-- the first piece gave its bytes, and the others are as they are
pub found_more : (d : ℕ) (p : Piece) (ps : List Piece) (s : State) (states : List State) (bs : List ℕ) → piece_in s d p ≡ Some bs
    → found d (p ∷ ps) (s ∷ states) ≡ option_map (λ more. bs ++ more) (found d ps states)
found_more d p ps s states bs here = ap (λ o. option_and_then (λ b. option_map (λ more. b ++ more) (found d ps states)) o) here

pub found_none : (d : ℕ) (p : Piece) (ps : List Piece) (s : State) (states : List State) → piece_in s d p ≡ None → found d (p ∷ ps) (s ∷ states) ≡ None
found_none d p ps s states here = ap (λ o. option_and_then (λ b. option_map (λ more. b ++ more) (found d ps states)) o) here

pub fetch_all-ends : (d generation : ℕ) (ps : List Piece) (got : List ℕ) (failed : Reply) (k : List ℕ → Rests) (ts : List Transition) (r : Reply)
    → Ends (Vcpu d generation) (λ os. fetch_all ps got (Say failed) k os) ts r → Fetched d generation ps got failed k ts r
fetch_all-ends d generation [] got failed k ts r h =
    let P : List ℕ → Type 0 = λ bs. Ends (Vcpu d generation) (k bs) ts r in
    Found [] refl refl (subst P (sym (append-nil got)) h)
fetch_all-ends d generation (p ∷ ps) got failed k [] r h = absurd (let no : ⊥ = cc in no)
fetch_all-ends d generation (p ∷ ps) got failed k (t ∷ ts) r h =
    by (fetched d generation p t (performs (Vcpu d generation) (Fetch p.page p.off p.n) (fetch_all (p ∷ ps) got (Say failed) k) t refl h.0))
    (λ bs later. fetch_all-ends d generation ps (got ++ bs) failed k ts r later) where
      actor : Actor
      actor = Vcpu d generation

      reader : Outcome → Rests
      reader = if_bytes (λ os. Say failed) (λ bs os. fetch_all ps (got ++ bs) (Say failed) k os)

      rest : (o : Outcome) → t.step.outcome ≡ o → Ends actor (λ os. unless_gone o reader os) ts r
      rest o is = let P : Outcome → Type 0 = λ x. Ends actor (λ os. unless_gone x reader os) ts r in subst P is h.1

      more : (bs : List ℕ) → t.step.outcome ≡ Bytes bs → piece_in t.before d p ≡ Some bs → Fetched d generation ps (got ++ bs) failed k ts r → Fetched d generation (p ∷ ps) got failed k (t ∷ ts) r
      more bs is here (Lost g same) = Lost (ap (λ o. is_gone o || any_gone ts) is ∙ g) same
      more bs is here (Missed g none same) = Missed (ap (λ o. is_gone o || any_gone ts) is ∙ g) (found_more d p ps t.before (befores ts) bs here ∙ ap (option_map (λ more. bs ++ more)) none) same
      more bs is here (Found cs all g later) =
          let P : List ℕ → Type 0 = λ xs. Ends actor (k xs) (drop (length ps) ts) r in
          Found (bs ++ cs) (found_more d p ps t.before (befores ts) bs here ∙ ap (option_map (λ more. bs ++ more)) all)
          (ap (λ o. is_gone o || any_gone ts) is ∙ g) (subst P (append_assoc got bs cs) later)

      by : Look (piece_in t.before d p) t.step.outcome
          → ((bs : List ℕ) → Ends actor (λ os. fetch_all ps (got ++ bs) (Say failed) k os) ts r → Fetched d generation ps (got ++ bs) failed k ts r)
          → Fetched d generation (p ∷ ps) got failed k (t ∷ ts) r
      by (Vanishes is) later = let end = said actor gone ts r (rest Gone is) in Lost (ap (λ o. is_gone o || any_gone ts) is) end.1
      by (Misses is here) later =
          let end = said actor failed ts r (rest Fault is) in
          Missed (ap (λ o. is_gone o || any_gone ts) is ∙ ap any_gone end.0) (found_none d p ps t.before (befores ts) here) end.1
      by (Gives bs is here) later = more bs is here (later bs (rest (Bytes bs) is))

-- a gather comes to nothing where the line vanishes; or a piece was absent, and the line went on with the fault; or all its bytes were
-- found, and the line went on with them
pub data Gathered (d generation : ℕ) (ps : List Piece) (got : List ℕ) (n : ℕ) (k : Load → Rests) (ts : List Transition) (r : Reply) : Type 0 where
  Broken : any_gone ts ≡ true → gone ≡ r → Gathered d generation ps got n k ts r
  Cut : (j : ℕ) → found d ps (befores ts) ≡ None → any_gone ts ≡ any_gone (drop j ts)
      → Ends (Vcpu d generation) (k (Faulted n)) (drop j ts) r → Gathered d generation ps got n k ts r
  Whole : (j : ℕ) (bs : List ℕ) → found d ps (befores ts) ≡ Some bs → any_gone ts ≡ any_gone (drop j ts)
      → Ends (Vcpu d generation) (k (Body (got ++ bs))) (drop j ts) r → Gathered d generation ps got n k ts r

pub gather-ends : (d generation : ℕ) (ps : List Piece) (got : List ℕ) (n : ℕ) (k : Load → Rests) (ts : List Transition) (r : Reply)
    → Ends (Vcpu d generation) (λ os. gather ps got n k os) ts r → Gathered d generation ps got n k ts r
gather-ends d generation [] got n k ts r h =
    let P : List ℕ → Type 0 = λ bs. Ends (Vcpu d generation) (k (Body bs)) ts r in
    Whole 0 [] refl refl (subst P (sym (append-nil got)) h)
gather-ends d generation (p ∷ ps) got n k [] r h = absurd (let no : ⊥ = cc in no)
gather-ends d generation (p ∷ ps) got n k (t ∷ ts) r h =
    by (fetched d generation p t (performs (Vcpu d generation) (Fetch p.page p.off p.n) (gather (p ∷ ps) got n k) t refl h.0))
    (λ bs later. gather-ends d generation ps (got ++ bs) n k ts r later) where
      actor : Actor
      actor = Vcpu d generation

      reader : Outcome → Rests
      reader = if_bytes (k (Faulted n)) (λ bs os. gather ps (got ++ bs) n k os)

      rest : (o : Outcome) → t.step.outcome ≡ o → Ends actor (λ os. unless_gone o reader os) ts r
      rest o is = let P : Outcome → Type 0 = λ x. Ends actor (λ os. unless_gone x reader os) ts r in subst P is h.1

      gone_too : (o : Outcome) → t.step.outcome ≡ o → any_gone (t ∷ ts) ≡ (is_gone o || any_gone ts)
      gone_too o is = ap (λ x. is_gone x || any_gone ts) is

      more : (bs : List ℕ) → t.step.outcome ≡ Bytes bs → piece_in t.before d p ≡ Some bs → Gathered d generation ps (got ++ bs) n k ts r → Gathered d generation (p ∷ ps) got n k (t ∷ ts) r
      more bs is here (Broken g same) = Broken (gone_too (Bytes bs) is ∙ g) same
      more bs is here (Cut j none g later) = Cut (suc j) (found_more d p ps t.before (befores ts) bs here ∙ ap (option_map (λ more. bs ++ more)) none) (gone_too (Bytes bs) is ∙ g) later
      more bs is here (Whole j cs all g later) =
          let P : List ℕ → Type 0 = λ xs. Ends actor (k (Body xs)) (drop j ts) r in
          Whole (suc j) (bs ++ cs) (found_more d p ps t.before (befores ts) bs here ∙ ap (option_map (λ more. bs ++ more)) all)
          (gone_too (Bytes bs) is ∙ g) (subst P (append_assoc got bs cs) later)

      by : Look (piece_in t.before d p) t.step.outcome
          → ((bs : List ℕ) → Ends actor (λ os. gather ps (got ++ bs) n k os) ts r → Gathered d generation ps (got ++ bs) n k ts r)
          → Gathered d generation (p ∷ ps) got n k (t ∷ ts) r
      by (Vanishes is) later = let end = said actor gone ts r (rest Gone is) in Broken (gone_too Gone is) end.1
      by (Misses is here) later = Cut 1 (found_none d p ps t.before (befores ts) here) (gone_too Fault is) (rest Fault is)
      by (Gives bs is here) later = more bs is here (later bs (rest (Bytes bs) is))
