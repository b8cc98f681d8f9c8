-- Where a line goes after an outcome.
use Rattle.std.specs.Prelude.{◌≡◌, ℕ, ◌+◌, ◌<◌, ◌≤◌, List, [], ◌∷◌, length, Option, Some, None}
use Rattle.argo_base.specs.declared.piece.Piece.{Piece}
use Rattle.line_phase.specs.declared.phase.Phase.{Phase}
use Rattle.line_phase.specs.declared.phase.Phase.TheVariants.{Asking}
use Rattle.line_phase.specs.declared.phase.Question.{Question}
use Rattle.line_phase.specs.declared.phase.Question.TheVariants.{Deliver}
use Rattle.line_phase.specs.declared.phase.Text.{Text}
use Rattle.line_phase.specs.declared.phase.Followed.{Followed}
use Rattle.line_phase.specs.declared.phase.Followed.TheVariants.{To, Over}
use Rattle.line_phase.specs.declared.phase.Reader.{Reader}
use Rattle.argo_model.specs.declared.line.Line.{Line}
use Rattle.argo_model.specs.declared.action.Outcome.{Outcome}
use Rattle.argo_model.specs.declared.action.Address.{Address}
use Rattle.argo_model.specs.declared.action.Load.{Load}
use Rattle.argo_model.specs.Programs.Asks.{Say, Rests}
use Rattle.argo_model.specs.Programs.Asks.{collect}
use Rattle.argo_model.specs.declared.reply.Reply.{Reply}
use Rattle.argo_model.specs.declared.reply.Reply.TheVariants.{Gone}
use Rattle.line_phase.specs.Text.{after_put, if_not_put, most_after_put}
use Rattle.line_phase.specs.declared.ranges.Moved.{Moved}
use Rattle.line_phase.specs.declared.ranges.Moved.TheVariants.{More, Whole, Failed, Ended}
use Rattle.line_phase.specs.Reader.{after_read, after_fault, HasSize, most_after}
use Rattle.line_phase.specs.Phase.{rest_of, IsAtPhase, phase_left}

-- what the line still does from there
abbrev pub rest_followed : Line → Followed → Rests
rest_followed line (To phase) os = rest_of line phase os
rest_followed line (Over reply) os = Say reply

-- a line that is not over is at its phase
abbrev pub IsFollowed : Line → Followed → Type 0
IsFollowed line (To phase) = IsAtPhase line phase
IsFollowed line (Over reply) = Unit {0}

-- how many actions are to come at most
abbrev pub followed_left : Followed → ℕ
followed_left (To phase) = phase_left phase
followed_left (Over reply) = 0

-- a program goes on there, with at most so many actions
pub record Leads (k : Rests) (most : ℕ) (o : Followed) : Type 0 where
  pub rest : (line : Line) (os : List Outcome) → k os ≡ rest_followed line o os
  pub ready : (line : Line) → IsFollowed line o
  pub few : followed_left o ≤ most

-- where it goes nowhere, the line goes on from the phase at which it stays
abbrev pub rest_turned : Line → Phase → Option Followed → Rests
rest_turned line stays None os = rest_of line stays os
rest_turned line stays (Some o) os = rest_followed line o os

abbrev pub IsTurned : Line → Phase → Option Followed → Type 0
IsTurned line stays None = IsAtPhase line stays
IsTurned line stays (Some o) = IsFollowed line o

abbrev pub turned_left : Phase → Option Followed → ℕ
turned_left stays None = phase_left stays
turned_left stays (Some o) = followed_left o

-- a line that was at a phase goes on there after an outcome, or from the phase at which it stays
pub record Follows (line : Line) (old : Phase) (outcome : Outcome) (o : Option Followed) (stays : Phase) : Type 0 where
  pub rest : (os : List Outcome) → rest_of line old (outcome ∷ os) ≡ rest_turned line stays o os
  pub ready : IsTurned line stays o
  pub nearer : turned_left stays o < phase_left old

-- and so does one that asks, whichever line it is, and stays nowhere
abbrev pub AskFollows : Question → Outcome → Followed → Type 0
AskFollows q outcome o = (line : Line) (stays : Phase) → Follows line (Asking q) outcome (Some o) stays

-- one that delivers, whatever and wherever to
abbrev pub Sends : Outcome → Followed → Type 0
Sends outcome o = (to : Address) (load : Load) → AskFollows (Deliver to load) outcome o

-- where the last piece was fetched, there are so many bytes as the reader wants
abbrev pub IsWhole : Moved → ℕ → Reader → Type 0
IsWhole More n reader = Unit {0}
IsWhole Whole n reader = HasSize n reader
IsWhole Failed n reader = Unit {0}
IsWhole Ended n reader = Unit {0}

-- past its last piece a line that fetches goes on with the reader of these bytes
abbrev pub ReadsTo : Moved → List ℕ → Reader → Followed → Type 0
ReadsTo More got reader o = Unit {0}
ReadsTo Whole got reader o = Leads (after_read reader got) (most_after reader) o
ReadsTo Failed got reader o = Leads (after_fault reader) (most_after reader) o
ReadsTo Ended got reader o = o ≡ Over Gone

-- and one that puts with what follows the text
abbrev pub PutsTo : Moved → Text → Followed → Type 0
PutsTo More text o = Unit {0}
PutsTo Whole text o = Leads (after_put text) (most_after_put text) o
PutsTo Failed text o = (reply : Reply) × (o ≡ Over reply) × (Say reply ≡ if_not_put text)
PutsTo Ended text o = o ≡ Over Gone

-- all of these pieces are to be fetched
pub record Reads (ps : List Piece) (reader : Reader) (phase : Phase) : Type 0 where
  pub rest : (line : Line) (os : List Outcome) → collect ps [] (after_fault reader) (after_read reader) os ≡ rest_of line phase os
  pub ready : (line : Line) → IsAtPhase line phase
  pub left : phase_left phase ≡ length ps + most_after reader
