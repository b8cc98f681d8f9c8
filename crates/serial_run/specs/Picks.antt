-- The picks of a seed: which section takes each step of a serial run.
use Rattle.std.specs.Prelude.{◌≡◌, ℕ, ◌+◌, ◌%◌, ◌<◌, ◌==◌, List, length, take, filter, slice_get, Option, if◌then◌else◌}
use Rattle.std.specs.List.{range_with_len}
use Rattle.argo_base.specs.Generator.{number_after, drawn}
use Rattle.argo_model.specs.declared.closing.Final.{Final}
use Rattle.argo_model.specs.Runs.Script.{Script}
use Rattle.argo_model.specs.Runs.Run.{Course, run, is_open, IsComplete}
use Rattle.argo_model.specs.Runs.Final.{final_of}

-- the place of the pick among so many open sections, from 0. The seed 0 always picks the first
abbrev pub place_by : ℕ → ℕ → ℕ → ℕ
place_by seed number count = if seed == 0 then 0 else drawn number % count

-- the sections that have a line left, in rising order
abbrev pub open_sections : Course → List ℕ
open_sections c = filter (is_open c) (range_with_len 0 (length c.sections))

-- one of the open sections, by the generator's number
abbrev pub pick_of : ℕ → ℕ → List ℕ → Option ℕ
pick_of seed number vs = slice_get vs (place_by seed number (length vs))

-- the pick after the picks so far: the generator turns before each
abbrev pub next_pick : Script → ℕ → List ℕ → Option ℕ
next_pick script seed before = pick_of seed (number_after seed (length before + 1)) (open_sections (run script before))

-- each number of the schedule is the pick after those before it
abbrev pub EachIsPick : Script → ℕ → List ℕ → Type 0
EachIsPick script seed schedule =
    (i : ℕ) → i < length schedule → slice_get schedule i ≡ next_pick script seed (take i schedule)

-- a complete schedule, each of whose numbers is picked
pub record ArePicks (script : Script) (seed : ℕ) (schedule : List ℕ) : Type 0 where
  pub each : EachIsPick script seed schedule
  pub complete : IsComplete script schedule

-- what is shown of the run by the picks
abbrev pub IsRunByPicks : Script → ℕ → Final → Type 0
IsRunByPicks script seed shown = (schedule : List ℕ) × ArePicks script seed schedule × (shown ≡ final_of script schedule)

-- a script has at most one schedule of picks for a seed
abbrev pub PicksAreUnique : Type 0
PicksAreUnique = (script : Script) (seed : ℕ) (one other : List ℕ) → ArePicks script seed one → ArePicks script seed other → one ≡ other
