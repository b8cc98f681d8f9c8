-- What the entries of a journal come to: the flags that are set after them, and their totals.
use Rattle.std.specs.Prelude.{◌≡◌, ℕ, ◌<◌, ◌≤◌, List, [], ◌∷◌, Bool, false, ◌||◌, ◌&&◌, not, nat_eq, if◌then◌else◌, slice_index_or, sum_by}
use Rattle.argo_base.specs.Limits.{longest_body}
use Rattle.argo_model.specs.declared.short.Short.{Short}
use Rattle.argo_board.specs.declared.entry.Entry.{Entry}
use Rattle.argo_board.specs.declared.entry.FlagChange.{FlagChange}
use Rattle.argo_board.specs.declared.entry.FlagChange.TheVariants.{Keep, Raise, Clear}

-- whether the domain is one of these
abbrev pub is_among : ℕ → List ℕ → Bool
is_among dom [] = false
is_among dom (d ∷ ds) = nat_eq d dom || is_among dom ds

-- the flag of the domain after a change, where it was `set` before
abbrev pub changed : ℕ → Bool → FlagChange → Bool
changed dom set Keep = set
changed dom set (Raise doms) = set || is_among dom doms
changed dom set (Clear d) = set && not (nat_eq d dom)

-- how many numbers a domain can have
abbrev pub domains : ℕ
domains = 65536

-- of each flag, whether it is set after a change
abbrev pub AreChanged : List Bool → FlagChange → List Bool → Type 0
AreChanged before change after =
    (dom : ℕ) → dom < domains → slice_index_or after dom false ≡ changed dom (slice_index_or before dom false) change

-- those of these domains are set, the others stay
abbrev pub AreRaised : List Bool → List ℕ → List Bool → Type 0
AreRaised before doms after =
    (dom : ℕ) → dom < domains → slice_index_or after dom false ≡ (slice_index_or before dom false || is_among dom doms)

-- the flag of the domain after these entries, in their order
abbrev pub replayed : ℕ → Bool → List Entry → Bool
replayed dom set [] = set
replayed dom set (e ∷ es) = replayed dom (changed dom set e.change) es

-- all flags are clear before the first entry
abbrev pub is_raised : ℕ → List Entry → Bool
is_raised dom entries = replayed dom false entries

-- the tag of an accepted send, whose value is the size of its body
abbrev pub accepted_tag : ℕ
accepted_tag = 4

-- the greatest tag of an outcome
abbrev pub last_tag : ℕ
last_tag = 9

abbrev pub accepted_in : Short → ℕ
accepted_in s = if nat_eq s.tag accepted_tag then 1 else 0

abbrev pub bytes_in : Short → ℕ
bytes_in s = if nat_eq s.tag accepted_tag then s.value else 0

-- how many of these are accepted sends
abbrev pub accepted_of : List Entry → ℕ
accepted_of entries = sum_by (λ e. accepted_in e.short) entries

-- the bytes of the accepted sends among these
abbrev pub bytes_of : List Entry → ℕ
bytes_of entries = sum_by (λ e. bytes_in e.short) entries

-- it is an outcome's, and no accepted body is longer than a body can be
abbrev pub IsOutcome : Short → Type 0
IsOutcome s = (s.tag ≤ last_tag) × (s.tag ≡ accepted_tag → s.value ≤ longest_body)

-- it is an outcome of one of so many virtual CPUs
abbrev pub IsFit : ℕ → Entry → Type 0
IsFit vcpus e = (e.vcpu < vcpus) × IsOutcome e.short
