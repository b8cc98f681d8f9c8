-- What each step of a run does to flags and notices.
use Rattle.std.specs.Prelude.{◌≡◌, ℕ, ◌≤◌, ◌⊎◌, true, false, Option, Some, None}
use Rattle.argo_base.specs.Notices.{size_of}
use Rattle.argo_model.specs.Laws.Flags.{SetsFlag, ClearsFlag}
use Rattle.argo_model.specs.Laws.NoticeEnds.{has_flag, EndsLegally, MakesNotice}
use Rattle.argo_model.specs.Laws.RingNames.{RingName, standing, notice_on}
use Rattle.argo_model.specs.Laws.Transitions.{Transition}
use Rattle.argo_model.specs.Rules.Matches.{RingAt}

-- a flag is set, and cleared, by the steps that may do so alone
pub record FlagsStay (t : Transition) : Type 0 where
  pub set : (d : ℕ) → has_flag t.before d ≡ false → has_flag t.after d ≡ true → SetsFlag t d
  pub cleared : (d : ℕ) → has_flag t.before d ≡ true → has_flag t.after d ≡ false → ClearsFlag t d

-- a notice stands with no smaller size
abbrev pub StandsWith : ℕ → Option ℕ → Type 0
StandsWith size None = ⊥
StandsWith size (Some later) = size ≤ later

-- a notice on a ring that stands stands on with no smaller size, or is gone and has ended legally; and a notice stood so before,
-- or is made or raised
pub record NoticesStand (t : Transition) : Type 0 where
  pub stand : (name : RingName) (at : RingAt) (d size : ℕ) → standing t.before name ≡ Some at → size_of at.ring.notices d ≡ Some size
      → StandsWith size (notice_on t.after name d) ⊎ ((notice_on t.after name d ≡ None) × EndsLegally t at d size)
  pub made : (name : RingName) (d size : ℕ) → notice_on t.after name d ≡ Some size → (notice_on t.before name d ≡ Some size) ⊎ MakesNotice t name d
