-- When a closed world is whole for a script: all that a comparison with the machine needs is there.
use Rattle.std.specs.Prelude.{◌≡◌, ℕ, ◌<◌, List, [], ◌∷◌, All, length, sum_by, ⊤}
use Rattle.argo_model.specs.declared.closed.HeardLine.{HeardLine}
use Rattle.argo_model.specs.declared.closing.Totals.{Totals}
use Rattle.argo_model.specs.Runs.Script.{Script, Section}
use Rattle.argo_board.specs.Journal.{IsFit, accepted_of, bytes_of}
use Rattle.shared_world.specs.declared.closed.Closed.{Closed}

-- the steps rise, from above this one on
abbrev pub RiseAbove : ℕ → List HeardLine → Type 0
RiseAbove n [] = ⊤
RiseAbove n (h ∷ hs) = (n < h.step) × RiseAbove h.step hs

-- the step of the last reply, or 0 where there is none
abbrev pub last_step : List HeardLine → ℕ
last_step [] = 0
last_step (h ∷ []) = h.step
last_step (h ∷ h2 ∷ hs) = last_step (h2 ∷ hs)

-- a section has one reply a line, with rising steps, the last of which is its last step
pub record IsHeardOut (section : Section) (totals : Totals) (heard : List HeardLine) : Type 0 where
  pub all : length heard ≡ length section.lines
  pub rise : RiseAbove 0 heard
  pub last : last_step heard ≡ totals.steps

abbrev pub AreHeardOut : List Section → List Totals → List (List HeardLine) → Type 0
AreHeardOut [] [] [] = ⊤
AreHeardOut (s ∷ ss) (t ∷ ts) (h ∷ hs) = IsHeardOut s t h × AreHeardOut ss ts hs
AreHeardOut ss ts hs = ⊥

-- each entry is an outcome of a section, the totals add up to the entries, and each section has been heard out
pub record IsWhole (s : Script) (c : Closed) : Type 0 where
  pub entries : All (IsFit (length s.sections)) c.entries
  pub steps : sum_by (λ t. t.steps) c.totals ≡ length c.entries
  pub accepted : sum_by (λ t. t.accepted) c.totals ≡ accepted_of c.entries
  pub bytes : sum_by (λ t. t.bytes) c.totals ≡ bytes_of c.entries
  pub heard : AreHeardOut s.sections c.totals c.heard
