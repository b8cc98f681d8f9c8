-- A fetch whose bytes were seen where they stand, and whose step was counted.
use Rattle.std.proofs.Common.{◌≡◌, ℕ, List, Option, Some, None, Result, Ok, Err, IfOk, IfErr, Bor, slice_get, slice_set, refl, sym, ap, subst, ◌∙◌}
use Rattle.argo_base.specs.declared.piece.Piece.{Piece}
use Rattle.argo_model.specs.declared.action.Outcome.{Outcome}
use Rattle.argo_model.specs.declared.action.Outcome.TheVariants.{Bytes, Done}
use Rattle.argo_model.specs.declared.action.Unseen.{Unseen}
use Rattle.argo_model.specs.declared.action.Unseen.TheVariants.{Fault, Gone}
use Rattle.argo_model.specs.declared.closing.Totals.{Totals}
use Rattle.argo_model.specs.declared.scripts.Actor.{Actor}
use Rattle.argo_model.specs.Programs.Asks.{Next, Do}
use Rattle.argo_model.specs.Rules.Access.{ActsIn, counted_of, counted_at, fetch_of, outcome_unseen}
use Rattle.argo_model.specs.Rules.State.{State}
use Rattle.argo_model.specs.Runs.Final.{totals_after}
use Rattle.line_phase.specs.Acting.{Performs}

counted_alike : (ts : List Totals) (v : ℕ) (o : Outcome) → ((t : Totals) → totals_after t Done ≡ totals_after t o) → (x : Option Totals)
    → counted_of ts v Done x ≡ counted_of ts v o x
counted_alike ts v o same None = refl
counted_alike ts v o same (Some t) = ap (λ t. slice_set ts v t) (same t)

unseen_counts : (u : Unseen) (t : Totals) → totals_after t Done ≡ totals_after t (outcome_unseen u)
unseen_counts Fault t = refl
unseen_counts Gone t = refl

module _ (actors : List Actor) (v : ℕ) (piece : Piece) (told after : Option State) (counted counts : List Totals) (n : Next)
    (does : n ≡ Do (fetch_of piece)) (stays : after ≡ told) (counts_are : counts ≡ counted_at counted v Done) where
  performs : (o : Outcome) → ActsIn actors v (fetch_of piece) told o told → ((t : Totals) → totals_after t Done ≡ totals_after t o)
      → Performs actors v n told counted o after counts
  performs o acts same =
      let P : Option State → Type 0 = λ later. ActsIn actors v (fetch_of piece) told o later in
      record {
        action = fetch_of piece;
        does = does;
        acts = subst P (sym stays) acts;
        counts_are = counts_are ∙ counted_alike counted v o same (slice_get counted v);
      }

  -- what holds of what was seen, holds of the outcome of the fetch
  pub seen_performs : (P : Outcome → Type 0) (seen : Result (Bor (List ℕ)) Unseen)
      → IfOk seen (λ bytes. ActsIn actors v (fetch_of piece) told (Bytes bytes.now) told)
      → IfErr seen (λ u. ActsIn actors v (fetch_of piece) told (outcome_unseen u) told)
      → IfOk seen (λ bytes. P (Bytes bytes.now))
      → IfErr seen (λ u. P (outcome_unseen u))
      → (o : Outcome) × Performs actors v n told counted o after counts × P o
  seen_performs P (Ok bytes) acts unseen holds fails = (Bytes bytes.now, performs (Bytes bytes.now) acts (λ t. refl), holds)
  seen_performs P (Err u) acts unseen holds fails = (outcome_unseen u, performs (outcome_unseen u) unseen (unseen_counts u), fails)
