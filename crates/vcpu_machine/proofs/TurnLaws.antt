-- Laws of a section's turns.
use Rattle.std.proofs.Common.{◌≡◌, ℕ, ◌+◌, ◌<◌, List, [], ◌∷◌, ◌++◌, length, drop, Option, Some, None, slice_get, IfSome, refl, sym, ap, ◌∙◌, subst, arith}
use Rattle.std.proofs.lemmas.List.{append-nil}
use Rattle.argo_model.specs.declared.action.Action.{Action}
use Rattle.argo_model.specs.declared.action.Outcome.{Outcome}
use Rattle.argo_model.specs.declared.line.Line.{Line}
use Rattle.argo_model.specs.declared.reply.Reply.{Reply}
use Rattle.argo_model.specs.declared.scripts.Actor.{Actor}
use Rattle.argo_model.specs.Programs.Program.{Next, Do, Say, program}
use Rattle.argo_model.specs.Rules.Access.{ActsIn, ActsAt}
use Rattle.argo_model.specs.Rules.Act.{Effect, act}
use Rattle.argo_model.specs.Rules.State.{State}
use Rattle.argo_model.specs.Runs.Run.{Progress, Turn, turn, turn_at, turn_by, turn_to}
use Rattle.vcpu_machine.specs.Vcpu.{VcpuAt, ahead_of, ahead, reply_in, StandsFor, StandsAt, progress_after, GoesOn, Fed, TakesTurn}
use Rattle.line_phase.proofs.ListLaws.{some_here}

-- what a section's turn comes to, by what follows the outcome
turned : (s : State) (p : Progress) (line : Line) (rest : List Line) (a : Action) (o : Outcome) (after : State) (n : Next)
    → p.left ≡ line ∷ rest → program p.actor line p.outcomes ≡ Do a → act p.actor a s ≡ record { outcome = o; state = after }
    → program p.actor line (p.outcomes ++ o ∷ []) ≡ n → turn s p ≡ Some (turn_to p rest a (record { outcome = o; state = after }) n)
turned s p line rest a o after n lines does acts next =
    ap (λ ls. turn_at s p ls) lines
    ∙ ap (λ n. turn_by s p line rest n) does
    ∙ ap (λ e. Some (turn_to p rest a e (program p.actor line (p.outcomes ++ e.outcome ∷ [])))) acts
    ∙ ap (λ n. Some (turn_to p rest a (record { outcome = o; state = after }) n)) next

-- the turn, its place, its outcome, its reply, and what it leaves
abbrev IsTurn : State → Progress → ℕ → Outcome → Option Reply → State → VcpuAt → Type 0
IsTurn s p done o reply after new =
    (t : Turn) × (turn s p ≡ Some t) × (t.line ≡ done + 1) × (t.outcome ≡ o) × (t.reply ≡ reply) × (after ≡ t.state) × StandsAt new t.progress

turn_is : (s : State) (p : Progress) (line : Line) (rest : List Line) (a : Action) (o : Outcome) (after : State) (n : Next) (reply : Option Reply) (done : ℕ) (new : VcpuAt)
    → p.done ≡ done → p.left ≡ line ∷ rest → turn s p ≡ Some (turn_to p rest a (record { outcome = o; state = after }) n) → reply ≡ reply_in n
    → StandsAt new (progress_after p o reply) → IsTurn s p done o reply after new
turn_is s p line rest a o after (Do b) reply done new at lines turns is stands =
    (turn_to p rest a (record { outcome = o; state = after }) (Do b), turns, ap (λ n. n + 1) at, refl, sym is, refl, subst (λ r. StandsAt new (progress_after p o r)) is stands)
turn_is s p line rest a o after (Say said) reply done new at lines turns is stands =
    let st : StandsAt new (progress_after p o (Some said)) = subst (λ r. StandsAt new (progress_after p o r)) is stands in (
      turn_to p rest a (record { outcome = o; state = after }) (Say said),
      turns,
      ap (λ n. n + 1) at,
      refl,
      sym is,
      refl,
      record { actor = st.actor; done = st.done; left = sym (ap (λ ls. drop 1 ls) lines) ∙ st.left; outcomes = st.outcomes },
    )

done_by : (reply : Option Reply) (v mid new : VcpuAt) → mid.done ≡ v.done → IfSome reply (λ r. new.done ≡ mid.done + 1) → IfSome reply (λ r. new.done ≡ v.done + 1)
done_by None v mid new same h = tt
done_by (Some r) v mid new same h = h ∙ ap (λ n. n + 1) same

acted_so : (e : Effect) (o : Outcome) → o ≡ e.outcome → e ≡ record { outcome = o; state = e.state }
acted_so e o is = rw is refl

-- an action that was asked for, performed and fed is a turn
pub takes_turn : (v mid new : VcpuAt) (a : Action) (o : Outcome) (reply : Option Reply) (actors : List Actor) (k : ℕ) (before after : Option State)
    → v.done < length v.part.lines → slice_get actors k ≡ Some v.part.actor → ahead v [] ≡ Do a → GoesOn v mid → ActsIn actors k a before o after → Fed mid o reply new
    → TakesTurn before v o reply after new
takes_turn v mid new a o reply actors k before after more section does alike acts fed =
    let same = alike.left in
    let here = some_here v.part.lines v.done more in
    let line = here.0 in
    let rest = drop (v.done + 1) v.part.lines in
    record {
      part = fed.part ∙ alike.part;
      done = done_by reply v mid new alike.done fed.done;
      nearer = let nearer = fed.nearer in omega (arith, nearer, same);
      turns = λ s told p st.
          let acts_so : ActsAt (Some v.part.actor) a (Some s) o after = subst (λ x. ActsAt (Some v.part.actor) a x o after) told (subst (λ x. ActsAt x a before o after) section acts) in
          let lines : p.left ≡ line ∷ rest = st.left ∙ here.1 in
          let for : StandsFor v.part.actor (line ∷ rest) v.phase p.outcomes = subst (λ ls. StandsFor v.part.actor ls v.phase p.outcomes) here.1 st.outcomes in
          let ahead_is : (os : List Outcome) → program p.actor line (p.outcomes ++ os) ≡ ahead v os =
          λ os. ap (λ x. program x line (p.outcomes ++ os)) st.actor ∙ for os ∙ sym (ap (λ ls. ahead_of ls v.phase os) here.1) in
          let e = act v.part.actor a s in
          let acted : act p.actor a s ≡ record { outcome = o; state = e.state } =
          ap (λ x. act x a s) st.actor ∙ acted_so e o acts_so.0 in
          let t = turn_is s p line rest a o e.state (ahead mid (o ∷ [])) reply v.done new st.done lines
          (turned s p line rest a o e.state (ahead mid (o ∷ [])) lines
          (ap (λ os. program p.actor line os) (sym (append-nil p.outcomes)) ∙ ahead_is [] ∙ does)
          acted
          (ahead_is (o ∷ []) ∙ sym (alike.rest (o ∷ []))))
          fed.reply_is (fed.stands p (alike.stands p st)) in
          (t.0, t.1, t.2, t.3, t.4, acts_so.1 ∙ ap (λ x. Some x) t.5, t.6);
    }
