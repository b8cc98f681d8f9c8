-- What a recv goes on to with the bytes of a fetch, and what ends it.
use Rattle.std.proofs.Common.{◌≡◌, ℕ, ◌<◌, true, false, List, ◌∷◌, Option, Some, None, IsTrue, IsSome, IfNone, refl, sym, ap, subst, arith}
use Rattle.argo_base.specs.declared.message.Message.{Message}
use Rattle.argo_base.specs.Slots.{is_legal}
use Rattle.argo_model.specs.declared.action.Outcome.{Outcome}
use Rattle.argo_model.specs.declared.action.Outcome.TheVariants.{Bytes}
use Rattle.argo_model.specs.Programs.Recv.{End}
use Rattle.guest_lib.specs.declared.own_ring.OwnRing.{OwnRing}
use Rattle.guest_lib.specs.declared.received.Received.{Received}
use Rattle.guest_lib.specs.declared.stage.Stage.{Stage}
use Rattle.guest_lib.specs.declared.stage.Stage.TheVariants.{Rx, Tx, Head, Body, Word, Done}
use Rattle.guest_lib.specs.declared.stage.Onward.TheVariants.{Ended}
use Rattle.guest_lib.specs.Ends.{EndsFetch, EndsPut}
use Rattle.guest_lib.specs.Receiving.{Step, IsShort, ahead_at, followed, step_left}
use Rattle.guest_lib.specs.Stage.{CanHear, Follows, Hears, IsStage, step_of}
use Rattle.guest_lib.proofs.FetchLaws.{rx_piece, tx_piece, head_piece, some_first, first_is, fetch_ended, put_ended}

-- an outcome that ends the fetch of a stage, or its put, ends the recv
pub missed : (r : OwnRing) (s : Stage) → IsTrue (is_legal r.len) → IsStage r.len true s → (o : Outcome) (received : Received) → EndsFetch o received
    → ((word : ℕ) (m : Message) → s ≡ Word word m → EndsPut m o received) → IsShort received → CanHear r (step_of s) o
    → Follows r (step_of s) o (Ended received)
missed r Rx legal ready o received ends put short can = record {
  rest = λ end os. fetch_ended _ _ _ (rx_piece r.page) _ end _ o os received ends;
  ready = short;
  nearer = omega arith;
}
missed r (Tx rx) legal ready o received ends put short can = record {
  rest = λ end os. fetch_ended _ _ _ (tx_piece r.page) _ end _ o os received ends;
  ready = short;
  nearer = omega arith;
}
missed r (Head rx tx) legal ready o received ends put short can = record {
  rest = λ end os. fetch_ended _ _ _ (head_piece r.page r.len rx legal ready.0) _ end _ o os received ends;
  ready = short;
  nearer = omega arith;
}
missed r (Body b) legal ready o received ends put short can =
    let first = some_first b.slots ready.some in
    record {
      rest = λ end os. fetch_ended b.slots _ first.0 (first_is b.slots first.0 first.1) b.got.items end _ o os received ends;
      ready = short;
      nearer = omega arith;
    }
missed r (Word word m) legal ready o received ends put short can = record {
  rest = put_ended r.page word m o received (put word m refl);
  ready = short;
  nearer = omega arith;
}
missed r Done legal ready o received ends put short can = absurd can

module _ (r : OwnRing) (step : Step) (bytes : List ℕ) where
  pub hears_stage : (result : Option Received) (stage : Stage) → Hears r step bytes result stage → IsStage r.len false stage
  hears_stage None stage h = h.ready.0
  hears_stage (Some received) stage h = let P : Stage → Type 0 = λ s. IsStage r.len false s in subst P (sym h.1) tt

  pub hears_nearer : (result : Option Received) (stage : Stage) → Hears r step bytes result stage → step_left (step_of stage) < step_left step
  hears_nearer None stage h = h.nearer
  hears_nearer (Some received) stage h = let P : Stage → Type 0 = λ s. step_left (step_of s) < step_left step in subst P (sym h.1) h.0.nearer

  pub hears_some : (result : Option Received) (stage : Stage) → Hears r step bytes result stage → IsSome result → step_left (step_of stage) ≡ 0
  hears_some None stage h some = absurd (let clash : ⊥ = cc in clash)
  hears_some (Some received) stage h some = ap (λ s. step_left (step_of s)) h.1

  pub hears_over : (result : Option Received) (stage : Stage) → Hears r step bytes result stage → step_left (step_of stage) ≡ 0 → IsSome result
  hears_over None stage h over = absurd (let some = h.ready.1 in omega (arith, some, over))
  hears_over (Some received) stage h over = refl

  pub hears_none : (P : Type 0) (result : Option Received) (stage : Stage) → Hears r step bytes result stage
      → (IsStage r.len false stage → 0 < step_left (step_of stage) → P) → IfNone result P
  hears_none P None stage h holds = holds h.ready.0 h.ready.1
  hears_none P (Some received) stage h holds = tt

  pub hears_rest : (result : Option Received) (stage : Stage) → Hears r step bytes result stage
      → (end : End) (os : List Outcome) → ahead_at end r.page r.len step (Bytes bytes ∷ os)
      ≡ followed end (record { page = r.page; len = r.len; step = step_of stage; ready = false }) result os
  hears_rest None stage h end os = h.rest end os
  hears_rest (Some received) stage h end os = h.0.rest end os
