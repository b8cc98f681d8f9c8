-- The workers of all sections.
use Rattle.std.specs.Prelude.{◌≡◌, ℕ, ◌+◌, ◌<◌, List, [], ◌∷◌, length, slice_index_or, ⊤}
use Rattle.argo_model.specs.declared.scripts.Actor.{Actor}
use Rattle.argo_model.specs.Rules.Possible.{Facts}
use Rattle.argo_model.specs.Runs.Script.{Section}
use Rattle.thread_run.specs.Worker.{Work, MayWork, SameSection}

-- each section may be worked through
abbrev pub AllMayWork : Facts → List Actor → List Section → Type 0
AllMayWork f actors sections =
    (k : ℕ) (d : Section) → k < length sections → MayWork f actors k (slice_index_or sections k d)

-- the workers of these sections, the first of which has this number
abbrev pub AreWorkersFrom : ℕ → List Work → List Section → Type 0
AreWorkersFrom n [] [] = ⊤
AreWorkersFrom n (w ∷ ws) (s ∷ ss) = ((w.vcpu.part ≡ s) × (w.number ≡ n)) × AreWorkersFrom (n + 1) ws ss
AreWorkersFrom n ws ss = ⊥

abbrev pub AreWorkersOf : List Work → List Section → Type 0
AreWorkersOf ws ss = AreWorkersFrom 0 ws ss

-- each is the same section's as before
abbrev pub AreOfTheSame : List Work → List Work → Type 0
AreOfTheSame olds news =
    (k : ℕ) (d : Work) → k < length olds → SameSection (slice_index_or olds k d) (slice_index_or news k d)
