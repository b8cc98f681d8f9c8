-- Laws of looks.
use Rattle.std.proofs.Common.{◌≡◌, ◌≢◌, ℕ, zero, suc, ◌+◌, ◌-◌, ◌<◌, true, false, List, ◌∷◌, refl, ap, arith}
use Rattle.std.proofs.lemmas.Bool.{false≢true}
use Rattle.argo_model.specs.declared.action.Action.TheVariants.{Look}
use Rattle.argo_model.specs.declared.action.Outcome.{Outcome}
use Rattle.argo_model.specs.declared.action.Outcome.TheVariants.{Done, Bytes, Fault, Refused, Accepted, Swept, NoMore, Answer, Flag, Gone}
use Rattle.argo_model.specs.Programs.Asks.{Rests, ask}
use Rattle.argo_model.specs.Programs.Program.{if_flag, await}
use Rattle.vcpu_machine.specs.Looking.{is_signal}

-- a look that finds nothing is followed by the next
pub looks_on : (o : Outcome) (more : Rests) (os : List Outcome) → o ≢ Gone → false ≡ is_signal o → ask Look (if_flag more) (o ∷ os) ≡ more os
looks_on Done more os here unset = refl
looks_on (Bytes bs) more os here unset = refl
looks_on Fault more os here unset = refl
looks_on (Refused e) more os here unset = refl
looks_on (Accepted n) more os here unset = refl
looks_on (Swept n) more os here unset = refl
looks_on NoMore more os here unset = refl
looks_on (Answer a) more os here unset = refl
looks_on (Flag true) more os here unset = absurd (false≢true unset)
looks_on (Flag false) more os here unset = refl
looks_on Gone more os here unset = absurd (here refl)

-- with looks to come, the next one is made
pub awaits_more : (n : ℕ) (os : List Outcome) → n ≢ 0 → await n os ≡ ask Look (if_flag (await (n - 1))) os
awaits_more zero os some = absurd (some refl)
awaits_more (suc m) os some = let e : m ≡ suc m - 1 = omega arith in ap (λ k. ask Look (if_flag (await k)) os) e

pub nearer_look : (n : ℕ) → n ≢ 0 → n - 1 + 1 < n + 1
nearer_look zero some = absurd (some refl)
nearer_look (suc m) some = omega arith
