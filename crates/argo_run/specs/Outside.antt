-- What a call makes of its source and of its sink.
use Rattle.std.specs.Prelude.{◌≡◌, ℕ, List, Option}
use Rattle.argo_outside.specs.Faults.{Rose}
use Rattle.argo_outside.specs.Sink.{appended, CutShort}

-- of a source: its count of faults before and after, and the bytes that it had and has left, where it tells them
pub record Reading : Type 0 where
  pub faults : ℕ
  pub faults_new : ℕ
  pub left : Option (List ℕ)
  pub left_new : Option (List ℕ)

abbrev pub reading : {S : Type 0} → (S → ℕ) → (S → Option (List ℕ)) → S → S → Reading
reading faults left old new = record { faults = faults old; faults_new = faults new; left = left old; left_new = left new }

-- of a sink: its count of faults before and after, and the bytes that it had and has taken, where it tells them
pub record Writing : Type 0 where
  pub faults : ℕ
  pub faults_new : ℕ
  pub written : Option (List ℕ)
  pub written_new : Option (List ℕ)

abbrev pub writing : {K : Type 0} → (K → ℕ) → (K → Option (List ℕ)) → K → K → Writing
writing faults written old new = record { faults = faults old; faults_new = faults new; written = written old; written_new = written new }

abbrev pub SourceRose : Reading → Type 0
SourceRose r = Rose r.faults r.faults_new

abbrev pub SinkRose : Writing → Type 0
SinkRose w = Rose w.faults w.faults_new

-- the text was written whole
abbrev pub IsWritten : Writing → List ℕ → Type 0
IsWritten w text = w.written_new ≡ appended w.written text

-- a part of the text was written, and not all of it
abbrev pub IsCut : Writing → List ℕ → Type 0
IsCut w text = CutShort w.written w.written_new text

abbrev pub IsUnwritten : Writing → Type 0
IsUnwritten w = w.written_new ≡ w.written
