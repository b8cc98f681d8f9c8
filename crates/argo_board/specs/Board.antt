-- What a board and a pass are seen as, and what always holds of a board.
use Rattle.std.specs.Prelude.{◌≡◌, ℕ, ◌+◌, ◌-◌, ◌*◌, ◌^◌, ◌<◌, ◌≤◌, List, Bool, All, length, false, slice_index_or}
use Rattle.argo_base.specs.Limits.{longest_body}
use Rattle.argo_model.specs.declared.short.Short.{Short}
use Rattle.argo_model.specs.declared.closing.Totals.{Totals}
use Rattle.argo_board.specs.Books.{Amounts, Portion, portion}
use Rattle.argo_board.specs.Journal.{IsFit, domains, is_raised, accepted_in, accepted_of, bytes_in, bytes_of}
use Rattle.argo_board.specs.declared.entry.Entry.{Entry}

-- the entries from the first to the last, and whether an append may follow
pub record Seen : Type 0 where
  pub entries : List Entry
  pub reserved : Bool

abbrev pub seen : List Entry → Bool → Seen
seen entries reserved = record { entries = entries; reserved = reserved }

-- the number of a virtual CPU, its steps, its accepted sends and their bytes
pub record Tally : Type 0 where
  pub vcpu : ℕ
  pub steps : ℕ
  pub accepted : ℕ
  pub bytes : ℕ

abbrev pub tally : ℕ → ℕ → ℕ → ℕ → Tally
tally vcpu steps accepted bytes = record { vcpu = vcpu; steps = steps; accepted = accepted; bytes = bytes }

-- after a step with this outcome
abbrev pub counted : Tally → Short → Tally
counted t s = tally t.vcpu (t.steps + 1) (t.accepted + accepted_in s) (t.bytes + bytes_in s)

-- the steps that one virtual CPU can make
abbrev pub most_steps : ℕ
most_steps = 2 ^ 32

abbrev pub most_vcpus : ℕ
most_vcpus = 64

-- what a pass shows at the end
abbrev pub totals_of : Tally → Totals
totals_of t = record { steps = t.steps; accepted = t.accepted; bytes = t.bytes }

-- passes that have made no step, of virtual CPU 0, 1 and so on
abbrev pub AreFresh : List Tally → Type 0
AreFresh passes =
    (k : ℕ) (d : Tally) → k < length passes → slice_index_or passes k d ≡ tally k 0 0 0

-- the passes of virtual CPU 0, 1 and so on
abbrev pub StandInOrder : List Tally → Type 0
StandInOrder passes =
    (k : ℕ) (d : Tally) → k < length passes → (slice_index_or passes k d).vcpu ≡ k

-- the flags of all domains are the replay of the entries
abbrev pub AreReplay : List Bool → List Entry → Type 0
AreReplay flags entries =
    (dom : ℕ) → dom < domains → slice_index_or flags dom false ≡ is_raised dom entries

-- a ledger has a part for each virtual CPU and one more, which the board keeps. All room that is no entry's is left,
-- and the other two books have the totals of the entries
pub record IsBoard (parts : ℕ) (entries : List Entry) (flags : List Bool) (books : Amounts) (kept : Portion) : Type 0 where
  pub some : 0 < parts
  pub most : parts ≤ most_vcpus + 1
  pub replay : AreReplay flags entries
  pub room : books.room + length entries ≡ most_steps * (parts - 1)
  pub few : length entries ≤ 2 ^ 38
  pub sends : books.sends ≡ accepted_of entries
  pub loads : books.loads ≡ bytes_of entries
  pub fit : All (IsFit (parts - 1)) entries
  pub rest : kept ≡ portion 1 0 0 0

-- one part of each ledger: what is left of its room is what the steps left of it, and the other two amounts are the
-- pass's own totals
pub record IsPass (parts : ℕ) (is : Tally) (has : Portion) : Type 0 where
  pub own : is.vcpu + 1 < parts
  pub one : has.parts ≡ 1
  pub room : has.room + is.steps ≡ most_steps
  pub sends : has.sends ≡ is.accepted
  pub loads : has.loads ≡ is.bytes
  pub few : is.accepted ≤ is.steps
  pub short : is.bytes ≤ is.accepted * longest_body
