-- How the writing of what is due ends.
use Rattle.std.specs.Prelude.{◌≡◌, ℕ, ◌⊎◌, List, Option, ⊤}
use Rattle.argo_outside.specs.Sink.{appended, CutShort}
use Rattle.argo_check.specs.declared.status.CheckStatus.{CheckStatus}
use Rattle.argo_check.specs.declared.status.CheckStatus.TheVariants as s

-- statuses, each with the texts that are due with it
abbrev pub Dues : Type 1
Dues = CheckStatus → List ℕ → Type 0

-- this status, and this text
abbrev pub Just : CheckStatus → List ℕ → Dues
Just status text = λ st t. (st ≡ status) × (t ≡ text)

-- a text that is due with its status was written in part, from its start, and not to its end
abbrev pub WroteAPart : Dues → Option (List ℕ) → Option (List ℕ) → Type 0
WroteAPart Due written written_new = (status : CheckStatus) × (text : List ℕ) × Due status text × CutShort written written_new text

abbrev pub WroteWhole : Dues → Option (List ℕ) → Option (List ℕ) → CheckStatus → Type 0
WroteWhole Due written written_new status = (text : List ℕ) × Due status text × (written_new ≡ appended written text)

-- the text that is due with the status was written whole; or the sink failed, or memory ran out
abbrev pub Said : Dues → Option (List ℕ) → Option (List ℕ) → Type 0 → CheckStatus → Type 0
Said Due written written_new rose s.Usage = ⊥
Said Due written written_new rose s.SourceFault = ⊥
Said Due written written_new rose s.SinkFault = rose × WroteAPart Due written written_new
Said Due written written_new rose s.NoMemory = (written_new ≡ written) ⊎ WroteAPart Due written written_new
Said Due written written_new rose status = WroteWhole Due written written_new status

-- the same of one text with its status, which takes no memory
abbrev pub Told : CheckStatus → List ℕ → Option (List ℕ) → Option (List ℕ) → Type 0 → CheckStatus → Type 0
Told status text written written_new rose end =
    ((end ≡ status) × (written_new ≡ appended written text)) ⊎ ((end ≡ s.SinkFault) × rose × CutShort written written_new text)

-- why there are no bytes
abbrev pub IsReadFault : Type 0 → CheckStatus → Type 0
IsReadFault rose s.SourceFault = rose
IsReadFault rose s.NoMemory = ⊤
IsReadFault rose _ = ⊥
