-- The first difference among many.
use Rattle.std.specs.Prelude.{ℕ, zero, suc, ◌==◌, if◌then◌else◌, max, List, [], ◌∷◌, length, Option, Some, None, slice_index_or}
use Rattle.std.specs.Option.{option_or}
use Rattle.audit.specs.declared.values.Values.{Values}

-- the number of the threads and that of the machine
abbrev pub values : ℕ → ℕ → Values
values threads machine = record { threads = threads; machine = machine }

-- two numbers, where they differ
abbrev pub differ : ℕ → ℕ → Option Values
differ threads machine = if threads == machine then None else Some (values threads machine)

-- the first that is found at the places 0, 1 and so on, which are so many
abbrev pub first_below : {V : Type 0} → (ℕ → Option V) → ℕ → Option V
first_below f zero = None
first_below f (suc n) = option_or (first_below f n) (f n)

-- the first that is found of these
abbrev pub first_in : {A V : Type 0} → (A → Option V) → List A → Option V
first_in f [] = None
first_in f (x ∷ xs) = option_or (f x) (first_in f xs)

-- how many places two lists have together
abbrev pub places : {A B : Type 0} → List A → List B → ℕ
places xs ys = max (length xs) (length ys)

-- the number for what is missing
abbrev pub missing : ℕ
missing = 18446744073709551615

-- two lists of numbers at a place; one that has ended has this number
abbrev pub differ_at : ℕ → List ℕ → List ℕ → ℕ → Option Values
differ_at ended xs ys k = differ (slice_index_or xs k ended) (slice_index_or ys k ended)

-- two lists of numbers, place by place
abbrev pub lists_differ : ℕ → List ℕ → List ℕ → Option Values
lists_differ ended xs ys = first_below (differ_at ended xs ys) (places xs ys)

-- two texts; the number behind the end of one is no byte's
abbrev pub text_end : ℕ
text_end = 256

abbrev pub texts_differ : List ℕ → List ℕ → Option Values
texts_differ xs ys = lists_differ text_end xs ys
