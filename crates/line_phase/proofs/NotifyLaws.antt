-- Laws of notify.
use Rattle.std.proofs.Common.{◌≡◌, ◌≢◌, ℕ, zero, suc, ◌+◌, ◌-◌, ◌*◌, ◌<◌, List, ◌∷◌, refl, ap, arith}
use Rattle.argo_model.specs.declared.action.Outcome.{Outcome}
use Rattle.argo_model.specs.Programs.Asks.{read}
use Rattle.argo_model.specs.Programs.Notify.{notify_head, notify_entries}
use Rattle.line_phase.specs.Entries.{places_from}

-- where the address is not 0 the head is read
pub notify_entries-some : (base : ℕ) → base ≢ 0 → (os : List Outcome) → notify_entries base os ≡ read base 8 (notify_head base) os
notify_entries-some zero some os = absurd (some refl)
notify_entries-some (suc a) some os = refl

-- the first of some places
pub places_from-first : (base place count : ℕ) → 0 < count → places_from base place count ≡ (base + 8 + 20 * place) ∷ places_from base (place + 1) (count - 1)
places_from-first base place zero some = absurd (omega arith)
places_from-first base place (suc n) some = ap (λ m. (base + 8 + 20 * place) ∷ places_from base (place + 1) m) (omega arith)
