-- What contracts see of a pass of a shared world, and what a step does to it.
use Rattle.std.specs.Prelude.{◌≡◌, ℕ, ◌<◌, List, [], ◌∷◌, ◌++◌, length, slice_index_or}
use Rattle.argo_model.specs.declared.action.Outcome.{Outcome}
use Rattle.argo_model.specs.Rules.Shorts.{short_of}
use Rattle.argo_board.specs.Board.{Tally, tally, counted}
use Rattle.argo_board.specs.declared.entry.Entry.{Entry}
use Rattle.argo_board.specs.declared.entry.FlagChange.{FlagChange}

-- its number and its totals, and the ranks of the locks that its virtual CPU holds
pub record Carried : Type 0 where
  pub tally : Tally
  pub held : List ℕ

abbrev pub carried : Tally → List ℕ → Carried
carried tally held = record { tally = tally; held = held }

-- after a step with this outcome
abbrev pub stepped : Carried → Outcome → Carried
stepped c o = carried (counted c.tally (short_of o)) c.held

-- the entry of a step with this outcome, which does this to the flags
abbrev pub entry_of : Carried → Outcome → FlagChange → Entry
entry_of c o change = record { vcpu = c.tally.vcpu; short = short_of o; change = change }

-- entries, and then that of a step
abbrev pub noted : List Entry → Carried → Outcome → FlagChange → List Entry
noted entries c o change = entries ++ entry_of c o change ∷ []

-- passes that have made no step and hold no lock, of section 0, 1 and so on
abbrev pub AreFresh : List Carried → Type 0
AreFresh passes =
    (k : ℕ) (d : Carried) → k < length passes → slice_index_or passes k d ≡ carried (tally k 0 0 0) []

-- the passes of section 0, 1 and so on
abbrev pub StandInOrder : List Carried → Type 0
StandInOrder passes =
    (k : ℕ) (d : Carried) → k < length passes → (slice_index_or passes k d).tally.vcpu ≡ k
