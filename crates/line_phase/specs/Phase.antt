-- How far a line is, as the machine keeps it in place of all the line's outcomes.
use Rattle.std.specs.Prelude.{◌≡◌, ℕ, ◌+◌, ◌-◌, min, ◌<◌, ◌≤◌, Bool, true, false, List, ◌∷◌, length, IsTrue, Option, Some, None, vec_len, vec_capacity}
use Rattle.line_phase.specs.declared.cursor.Cursor.{Cursor}
use Rattle.line_phase.specs.Cursor.{pieces_left, IsSound}
use Rattle.line_phase.specs.declared.phase.Phase.{Phase}
use Rattle.line_phase.specs.declared.phase.Phase.TheVariants.{Reading, Writing, Asking, Looking, Receiving, Ended}
use Rattle.line_phase.specs.declared.phase.Reader.{Reader}
use Rattle.line_phase.specs.declared.phase.Text.{Text}
use Rattle.argo_model.specs.declared.line.Line.{Line}
use Rattle.argo_model.specs.declared.action.Action.TheVariants.{Rest, Look, Sweep}
use Rattle.argo_model.specs.declared.action.Outcome.{Outcome}
use Rattle.argo_model.specs.Programs.Asks.{collect}
use Rattle.line_phase.specs.Ranges.{last_of}
use Rattle.argo_model.specs.Programs.Program.{Next, Do, Say, Rests, ask, put_all, if_flag, await}
use Rattle.argo_model.specs.Programs.Recv.{say_found}
use Rattle.guest_lib.specs.Receiving.{ahead, IsUnderWay, left_of}
use Rattle.line_phase.specs.Reader.{after_read, after_fault, HasSize, IsReader, most_after}
use Rattle.line_phase.specs.Text.{text_of, after_put, if_not_put, IsText, most_after_put}
use Rattle.line_phase.specs.Question.{action_of, answered_by, IsQuestion, most_after_answer}

-- what the line still does from this phase on
abbrev pub rest_of : Line → Phase → Rests
rest_of line (Reading c got reader) os = collect (pieces_left c) got.items (after_fault reader) (after_read reader) os
rest_of line (Writing c text) os = put_all (pieces_left c) (last_of c.left (text_of line text)) (if_not_put text) (after_put text) os
rest_of line (Asking q) os = ask (action_of q) (answered_by q) os
rest_of line (Looking later) os = ask Look (if_flag (await later)) os
rest_of line (Receiving r) os = ahead say_found r os
rest_of line Ended os = Do Rest

-- a range is to be fetched, beside so many bytes that were
pub record IsReading (c : Cursor) (got : ℕ) (reader : Reader) : Type 0 where
  pub some : 0 < c.left
  pub sound : IsSound c
  pub size : HasSize (got + c.left) reader
  pub ready : IsReader reader

-- a range is to be put, the last bytes of the text
pub record IsWriting (line : Line) (c : Cursor) (text : Text) : Type 0 where
  pub some : 0 < c.left
  pub sound : IsSound c
  pub size : c.left ≤ length (text_of line text)
  pub ready : IsText text

-- the line is at this phase, and has an action to come
abbrev pub IsAtPhase : Line → Phase → Type 0
IsAtPhase line (Reading c got reader) = IsReading c (length got.items) reader
IsAtPhase line (Writing c text) = IsWriting line c text
IsAtPhase line (Asking q) = IsQuestion q
IsAtPhase line (Looking later) = Unit {0}
IsAtPhase line (Receiving r) = IsUnderWay r
IsAtPhase line Ended = ⊥

-- the next action is a look or a sweep, which takes no memory
abbrev pub takes_none : Next → Bool
takes_none (Do Look) = true
takes_none (Do (Sweep after)) = true
takes_none n = false

-- how many actions are to come at most
abbrev pub phase_left : Phase → ℕ
phase_left (Reading c got reader) = length (pieces_left c) + most_after reader
phase_left (Writing c text) = length (pieces_left c) + most_after_put text
phase_left (Asking q) = most_after_answer q + 1
phase_left (Looking later) = later + 1
phase_left (Receiving r) = left_of r
phase_left Ended = 0
