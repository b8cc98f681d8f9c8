-- One outcome of a range that is put or fetched piece by piece.
use Rattle.std.specs.Prelude.{◌≡◌, ℕ, ◌-◌, ◌<◌, ◌≤◌, min, List, [], ◌∷◌, length, drop, ◌+◌, ◌==◌, if◌then◌else◌, vec_len, vec_capacity, Vec}
use Rattle.std.specs.declared.alloc.Global.{Global}
use Rattle.argo_base.specs.declared.piece.Piece.{Piece}
use Rattle.line_phase.specs.declared.cursor.Cursor.{Cursor}
use Rattle.line_phase.specs.declared.ranges.Moved.{Moved}
use Rattle.line_phase.specs.declared.ranges.Moved.TheVariants.{More, Whole, Failed, Ended}
use Rattle.argo_model.specs.declared.reply.Reply.TheVariants.{Gone}
use Rattle.argo_model.specs.declared.action.Action.{Action}
use Rattle.argo_model.specs.declared.action.Outcome.{Outcome}
use Rattle.argo_model.specs.declared.action.Outcome.TheVariants.{Bytes}
use Rattle.line_phase.specs.Cursor.{pieces_left, IsSound}
use Rattle.argo_model.specs.Programs.Asks.{Next, Do, Say, Rests, collect, put_all}

-- the last n of the bytes
abbrev pub last_of : ℕ → List ℕ → List ℕ
last_of n bytes = drop (length bytes - n) bytes

-- this is the fetch of the first piece of a range, whatever comes after it
abbrev pub FetchesFirst : Cursor → Action → Type 0
FetchesFirst c a = (got : List ℕ) (failed : Rests) (k : List ℕ → Rests) → collect (pieces_left c) got failed k [] ≡ Do a

-- and this is the put of the first piece, of the last of the bytes
abbrev pub PutsFirst : Cursor → List ℕ → Action → Type 0
PutsFirst c bytes a = (failed : Next) (k : Rests) → put_all (pieces_left c) (last_of c.left bytes) failed k [] ≡ Do a

-- the bytes of the first piece have their room
abbrev pub HasRoomFor : Cursor → Vec ℕ Global → Type 0
HasRoomFor c got = vec_len got + min c.left (4096 - c.off) ≤ vec_capacity got

-- what follows: the rest of the range, what comes after the whole range, the failure, or the end of the caller
abbrev pub moved_to : Moved → Next → Next → Next → Next
moved_to More more whole failed = more
moved_to Whole more whole failed = whole
moved_to Failed more whole failed = failed
moved_to Ended more whole failed = Say Gone

-- nothing more of the range is to come
abbrev pub IsOver : Moved → Type 0
IsOver More = ⊥
IsOver Whole = Unit {0}
IsOver Failed = Unit {0}
IsOver Ended = Unit {0}

-- where more of the range is to come, it is less than before
abbrev pub IsNearer : Moved → Cursor → Cursor → Type 0
IsNearer More old new = (0 < new.left) × (new.left ≤ old.left) × (length (pieces_left new) < length (pieces_left old)) × IsSound new
IsNearer Whole old new = Unit {0}
IsNearer Failed old new = Unit {0}
IsNearer Ended old new = Unit {0}

-- where bytes came, they are those that the range has less
abbrev pub IsCounted : Moved → (old_got old_left new_got new_left : ℕ) → Type 0
IsCounted More old_got old_left new_got new_left = new_got + new_left ≡ old_got + old_left
IsCounted Whole old_got old_left new_got new_left = new_got ≡ old_got + old_left
IsCounted Failed old_got old_left new_got new_left = Unit {0}
IsCounted Ended old_got old_left new_got new_left = Unit {0}

abbrev pub CountsBytes : Moved → Cursor → List ℕ → Cursor → List ℕ → Type 0
CountsBytes moved old old_got new new_got = IsCounted moved (length old_got) old.left (length new_got) new.left

-- the bytes of an outcome are those of the first piece
abbrev pub GivesFirst : Cursor → Outcome → Type 0
GivesFirst c (Bytes bs) = length bs ≡ min c.left (4096 - c.off)
GivesFirst c o = Unit {0}

-- the first piece is left behind
pub record Advances (old : Cursor) (moved : Moved) (new : Cursor) : Type 0 where
  pub piece : Piece
  pub pieces : pieces_left old ≡ piece ∷ pieces_left new
  pub size : piece.n + new.left ≡ old.left
  pub first : piece.n ≡ min old.left (4096 - old.off)
  pub is : moved ≡ (if new.left == 0 then Whole else More)
  pub nearer : IsNearer moved old new

-- an outcome of the first piece moves a put on, whatever the bytes and whatever comes after them
abbrev pub PutMoves : Cursor → Outcome → Moved → Cursor → Type 0
PutMoves old o moved new =
    (bytes : List ℕ) (failed : Next) (k : Rests) (os : List Outcome) → old.left ≤ length bytes
    → put_all (pieces_left old) (last_of old.left bytes) failed k (o ∷ os)
    ≡ moved_to moved (put_all (pieces_left new) (last_of new.left bytes) failed k os) (k os) failed

-- and a fetch, where `old_got` was fetched before and `new_got` is now
abbrev pub FetchMoves : Cursor → List ℕ → Outcome → Moved → Cursor → List ℕ → Type 0
FetchMoves old old_got o moved new new_got =
    (failed : Rests) (k : List ℕ → Rests) (os : List Outcome)
    → collect (pieces_left old) old_got failed k (o ∷ os)
    ≡ moved_to moved (collect (pieces_left new) new_got failed k os) (k new_got os) (failed os)
