-- Stores, loads and awaits have their causes.
use Rattle.std.proofs.Common.{◌≡◌, ℕ, zero, suc, ◌+◌, ◌*◌, ◌==◌, Bool, true, false, cond, ◌||◌, List, [], ◌∷◌, ◌++◌, length, take, drop, Option, Some, None, refl, sym, ap, ◌∙◌, subst}
use Rattle.std.specs.Prelude.{unwrap_or, is_none, option_map, option_and_then}
use Rattle.std.specs.List.{list_any}
use Rattle.argo_base.specs.declared.piece.Piece.{Piece}
use Rattle.argo_base.specs.Pieces.{pieces}
use Rattle.argo_model.specs.declared.scripts.Actor.{Actor}
use Rattle.argo_model.specs.declared.scripts.Actor.TheVariants.{Vcpu}
use Rattle.argo_model.specs.declared.action.Action.TheVariants.{Put, Look as LookNow}
use Rattle.argo_model.specs.declared.action.Outcome.{Outcome}
use Rattle.argo_model.specs.declared.action.Outcome.TheVariants.{Done, Fault as Absent, Flag, Gone}
use Rattle.argo_model.specs.declared.reply.Reply.{Reply}
use Rattle.argo_model.specs.declared.reply.Reply.TheVariants.{Stored, Hex, Signal, NoSignal, Fault, Gone as gone}
use Rattle.argo_model.specs.Rules.State.{State, Domain, Live, domain_of, has_page}
use Rattle.argo_model.specs.Rules.Effects.{answered, leaving, change_in}
use Rattle.argo_model.specs.Rules.Puts.{put_into}
use Rattle.argo_model.specs.Rules.Act.{act_if_there, act_if_live}
use Rattle.argo_model.specs.Rules.Outcomes.{is_gone}
use Rattle.argo_model.specs.Programs.Program.{Rests, Say, unless_gone, if_done, put_all, store, load, await, if_flag}
use Rattle.argo_model.specs.Laws.Transitions.{Transition}
use Rattle.argo_model.specs.Laws.NoticeEnds.{has_flag}
use Rattle.argo_model.specs.Laws.SendCauses.{piece_of, piece_in, found}
use Rattle.reply_causes.specs.Tables.{case}
use Rattle.reply_causes.specs.MemoryCauses.{cause_of_store, cause_of_load, cause_of_await, hex_or_fault}
use Rattle.reply_causes.specs.Causes.{StoresHaveCauses, LoadsHaveCauses, AwaitsHaveCauses, AwaitsLookTurns}
use Rattle.reply_causes.proofs.StepLaws.{Ends, ends, Performs, performs, said, any_gone, befores, Over, Lost as Vanished, Replied}
use Rattle.reply_causes.proofs.FetchLaws.{Fetched, Lost, Missed, Found, fetch_all-ends, found_more, found_none}
use Rattle.reply_causes.proofs.TableLaws.{over-cause, says-over}

-- what a put comes to, beside the piece in the state that it finds
data PutsInto (piece : Option (List ℕ)) (o : Outcome) : Type 0 where
  Vanishes : o ≡ Gone → PutsInto piece o
  Misses : o ≡ Absent → piece ≡ None → PutsInto piece o
  Puts : (bs : List ℕ) → o ≡ Done → piece ≡ Some bs → PutsInto piece o

put_at : (d generation : ℕ) (s : State) (p : Piece) (bytes : List ℕ) (o : Option Domain)
    → PutsInto (option_and_then (piece_of p) (option_and_then (λ (x : Domain). x.life) o)) (act_if_there s d generation o (Put p.page p.off bytes)).outcome
put_at d generation s p bytes None = Vanishes refl
put_at d generation s p bytes (Some x) = by (x.generation == generation) x.life where
  page : (live : Live) (b : Bool) → PutsInto (cond b (Some (take p.n (drop (4096 * p.page + p.off) live.bytes))) None)
      (change_in s d (cond b (leaving Done (put_into live p.page p.off bytes)) (answered Absent))).outcome
  page live true = Puts _ refl refl
  page live false = Misses refl refl

  by : (b : Bool) (life : Option Live) → PutsInto (option_and_then (piece_of p) life) (act_if_live s d x (cond b life None) (Put p.page p.off bytes)).outcome
  by false life = Vanishes refl
  by true None = Vanishes refl
  by true (Some live) = page live (has_page live p.page)

put_is : (d generation : ℕ) (p : Piece) (bytes : List ℕ) (t : Transition) → Performs (Vcpu d generation) (Put p.page p.off bytes) t → PutsInto (piece_in t.before d p) t.step.outcome
put_is d generation p bytes t h =
    let P : Outcome → Type 0 = λ o. PutsInto (piece_in t.before d p) o in
    subst P (sym h.outcome) (put_at d generation t.before p bytes (domain_of t.before d))

-- a range that is put
pub puts-over : (d generation : ℕ) (ps : List Piece) (bytes : List ℕ) (failed q : Reply) (k : Rests) (ts : List Transition) (r : Reply)
    → Ends (Vcpu d generation) (λ os. put_all ps bytes (Say failed) k os) ts r
    → (Ends (Vcpu d generation) k (drop (length ps) ts) r → Over q (drop (length ps) ts) r)
    → Over (case (is_none (found d ps (befores ts))) failed q) ts r
puts-over d generation [] bytes failed q k ts r h later = later h
puts-over d generation (p ∷ ps) bytes failed q k [] r h later = absurd (let no : ⊥ = cc in no)
puts-over d generation (p ∷ ps) bytes failed q k (t ∷ ts) r h later =
    by (put_is d generation p (take p.n bytes) t (performs (Vcpu d generation) (Put p.page p.off (take p.n bytes)) (put_all (p ∷ ps) bytes (Say failed) k) t refl h.0))
    (λ rest. puts-over d generation ps (drop p.n bytes) failed q k ts r rest later) where
      actor : Actor
      actor = Vcpu d generation

      reader : Outcome → Rests
      reader = if_done (Say failed) (λ os. put_all ps (drop p.n bytes) (Say failed) k os)

      rest : (o : Outcome) → t.step.outcome ≡ o → Ends actor (λ os. unless_gone o reader os) ts r
      rest o is = let P : Outcome → Type 0 = λ x. Ends actor (λ os. unless_gone x reader os) ts r in subst P is h.1

      gone_too : (o : Outcome) → t.step.outcome ≡ o → any_gone (t ∷ ts) ≡ (is_gone o || any_gone ts)
      gone_too o is = ap (λ x. is_gone x || any_gone ts) is

      same_rows : (bs : List ℕ) → piece_in t.before d p ≡ Some bs → (o : Option (List ℕ)) → found d ps (befores ts) ≡ o
          → case (is_none (found d ps (befores ts))) failed q ≡ case (is_none (found d (p ∷ ps) (befores (t ∷ ts)))) failed q
      same_rows bs here None none =
          ap (λ o. case (is_none o) failed q) none ∙ sym (ap (λ o. case (is_none o) failed q) (found_more d p ps t.before (befores ts) bs here ∙ ap (option_map (λ more. bs ++ more)) none))
      same_rows bs here (Some cs) some =
          ap (λ o. case (is_none o) failed q) some ∙ sym (ap (λ o. case (is_none o) failed q) (found_more d p ps t.before (befores ts) bs here ∙ ap (option_map (λ more. bs ++ more)) some))

      more : (bs : List ℕ) → t.step.outcome ≡ Done → piece_in t.before d p ≡ Some bs → Over (case (is_none (found d ps (befores ts))) failed q) ts r
          → Over (case (is_none (found d (p ∷ ps) (befores (t ∷ ts)))) failed q) (t ∷ ts) r
      more bs is here (Vanished some same) = Vanished (gone_too Done is ∙ some) same
      more bs is here (Replied none same) = Replied (gone_too Done is ∙ none) (sym (same_rows bs here (found d ps (befores ts)) refl) ∙ same)

      by : PutsInto (piece_in t.before d p) t.step.outcome
          → (Ends actor (λ os. put_all ps (drop p.n bytes) (Say failed) k os) ts r → Over (case (is_none (found d ps (befores ts))) failed q) ts r)
          → Over (case (is_none (found d (p ∷ ps) (befores (t ∷ ts)))) failed q) (t ∷ ts) r
      by (Vanishes is) next = let end = said actor gone ts r (rest Gone is) in Vanished (gone_too Gone is) end.1
      by (Misses is here) next =
          let end = said actor failed ts r (rest Absent is) in
          Replied (gone_too Absent is ∙ ap any_gone end.0) (ap (λ o. case (is_none o) failed q) (found_none d p ps t.before (befores ts) here) ∙ end.1)
      by (Puts bs is here) next = more bs is here (next (rest Done is))

pub stores_have_causes : StoresHaveCauses
stores_have_causes d generation at bytes ts r h =
    over-cause (cause_of_store d at bytes (befores ts)) ts r (
    puts-over d generation (pieces at (length bytes)) bytes Fault Stored (λ os. Say Stored) ts r (ends (Vcpu d generation) (λ os. store at bytes os) ts r h)
    (λ end. says-over (Vcpu d generation) Stored (drop (length (pieces at (length bytes))) ts) r end))

pub loads_have_causes : LoadsHaveCauses
loads_have_causes d generation at n ts r h =
    over-cause (cause_of_load d at n (befores ts)) ts r (
    by (fetch_all-ends d generation (pieces at n) [] Fault (λ bs os. Say (Hex bs)) ts r (ends (Vcpu d generation) (λ os. load at n os) ts r h))) where
      by : Fetched d generation (pieces at n) [] Fault (λ bs os. Say (Hex bs)) ts r → Over (cause_of_load d at n (befores ts)) ts r
      by (Lost some same) = Vanished some same
      by (Missed none absent same) = Replied none (ap hex_or_fault absent ∙ same)
      by (Found bs all g rest) =
          let end = said (Vcpu d generation) (Hex bs) (drop (length (pieces at n)) ts) r rest in
          Replied (g ∙ ap any_gone end.0) (ap hex_or_fault all ∙ end.1)

-- what a look comes to, beside the flag in the state that it finds
data Looks (flag : Bool) (o : Outcome) : Type 0 where
  Unseen : o ≡ Gone → Looks flag o
  Sees : o ≡ Flag flag → Looks flag o

look_at : (d generation : ℕ) (s : State) (o : Option Domain)
    → Looks (unwrap_or (option_map (λ (live : Live). live.flag) (option_and_then (λ (x : Domain). x.life) o)) false) (act_if_there s d generation o LookNow).outcome
look_at d generation s None = Unseen refl
look_at d generation s (Some x) = by (x.generation == generation) x.life where
  by : (b : Bool) (life : Option Live) → Looks (unwrap_or (option_map (λ (live : Live). live.flag) life) false) (act_if_live s d x (cond b life None) LookNow).outcome
  by false life = Unseen refl
  by true None = Unseen refl
  by true (Some live) = Sees refl

await-over : (d generation n : ℕ) (ts : List Transition) (r : Reply) → Ends (Vcpu d generation) (λ os. await n os) ts r → Over (cause_of_await d (befores ts)) ts r
await-over d generation zero ts r h =
    let end = said (Vcpu d generation) NoSignal ts r h in
    Replied (ap any_gone end.0) (ap (λ xs. cause_of_await d (befores xs)) end.0 ∙ end.1)
await-over d generation (suc n) [] r h = absurd (let no : ⊥ = cc in no)
await-over d generation (suc n) (t ∷ ts) r h =
    by (let P : Outcome → Type 0 = λ o. Looks (has_flag t.before d) o in
    subst P (sym does.outcome) (look_at d generation t.before (domain_of t.before d)))
    (λ rest. await-over d generation n ts r rest) where
      actor : Actor
      actor = Vcpu d generation

      does : Performs actor LookNow t
      does = performs actor LookNow (await (suc n)) t refl h.0

      rest : (o : Outcome) → t.step.outcome ≡ o → Ends actor (λ os. unless_gone o (if_flag (λ os. await n os)) os) ts r
      rest o is = let P : Outcome → Type 0 = λ x. Ends actor (λ os. unless_gone x (if_flag (λ os. await n os)) os) ts r in subst P is h.1

      gone_too : (o : Outcome) → t.step.outcome ≡ o → any_gone (t ∷ ts) ≡ (is_gone o || any_gone ts)
      gone_too o is = ap (λ x. is_gone x || any_gone ts) is

      cause_is : (b : Bool) → has_flag t.before d ≡ b → cause_of_await d (befores (t ∷ ts)) ≡ case (b || list_any (λ s. has_flag s d) (befores ts)) Signal NoSignal
      cause_is b is = ap (λ x. case (x || list_any (λ s. has_flag s d) (befores ts)) Signal NoSignal) is

      more : t.step.outcome ≡ Flag false → has_flag t.before d ≡ false → Over (cause_of_await d (befores ts)) ts r → Over (cause_of_await d (befores (t ∷ ts))) (t ∷ ts) r
      more is clear (Vanished some same) = Vanished (gone_too (Flag false) is ∙ some) same
      more is clear (Replied none same) = Replied (gone_too (Flag false) is ∙ none) (cause_is false clear ∙ same)

      sees : (b : Bool) → has_flag t.before d ≡ b → t.step.outcome ≡ Flag b
          → (Ends actor (λ os. await n os) ts r → Over (cause_of_await d (befores ts)) ts r) → Over (cause_of_await d (befores (t ∷ ts))) (t ∷ ts) r
      sees true set is later = let end = said actor Signal ts r (rest (Flag true) is) in Replied (gone_too (Flag true) is ∙ ap any_gone end.0) (cause_is true set ∙ end.1)
      sees false clear is later = more is clear (later (rest (Flag false) is))

      by : Looks (has_flag t.before d) t.step.outcome → (Ends actor (λ os. await n os) ts r → Over (cause_of_await d (befores ts)) ts r) → Over (cause_of_await d (befores (t ∷ ts))) (t ∷ ts) r
      by (Unseen is) later = let end = said actor gone ts r (rest Gone is) in Vanished (gone_too Gone is) end.1
      by (Sees is) later = sees (has_flag t.before d) refl is later

pub awaits_have_causes : AwaitsHaveCauses
awaits_have_causes d generation turns ts r h =
    over-cause (cause_of_await d (befores ts)) ts r (await-over d generation turns ts r (ends (Vcpu d generation) (λ os. await turns os) ts r h))

-- without a signal it has looked as often as it may
await-turns : (d generation n : ℕ) (ts : List Transition) → Ends (Vcpu d generation) (λ os. await n os) ts NoSignal → length ts ≡ n
await-turns d generation zero ts h = ap length (said (Vcpu d generation) NoSignal ts NoSignal h).0
await-turns d generation (suc n) [] h = absurd (let no : ⊥ = cc in no)
await-turns d generation (suc n) (t ∷ ts) h =
    by (let P : Outcome → Type 0 = λ o. Looks (has_flag t.before d) o in
    subst P (sym does.outcome) (look_at d generation t.before (domain_of t.before d)))
    (λ rest. await-turns d generation n ts rest) where
      actor : Actor
      actor = Vcpu d generation

      does : Performs actor LookNow t
      does = performs actor LookNow (await (suc n)) t refl h.0

      rest : (o : Outcome) → t.step.outcome ≡ o → Ends actor (λ os. unless_gone o (if_flag (λ os. await n os)) os) ts NoSignal
      rest o is = let P : Outcome → Type 0 = λ x. Ends actor (λ os. unless_gone x (if_flag (λ os. await n os)) os) ts NoSignal in subst P is h.1

      sees : (b : Bool) → t.step.outcome ≡ Flag b → (Ends actor (λ os. await n os) ts NoSignal → length ts ≡ n) → length (t ∷ ts) ≡ suc n
      sees true is later = let end = (said actor Signal ts NoSignal (rest (Flag true) is)).1 in absurd (let no : ⊥ = cc in no)
      sees false is later = ap suc (later (rest (Flag false) is))

      by : Looks (has_flag t.before d) t.step.outcome → (Ends actor (λ os. await n os) ts NoSignal → length ts ≡ n) → length (t ∷ ts) ≡ suc n
      by (Unseen is) later = let end = (said actor gone ts NoSignal (rest Gone is)).1 in absurd (let no : ⊥ = cc in no)
      by (Sees is) later = sees (has_flag t.before d) is later

pub awaits_look_turns : AwaitsLookTurns
awaits_look_turns d generation turns ts h = await-turns d generation turns ts (ends (Vcpu d generation) (λ os. await turns os) ts NoSignal h)
