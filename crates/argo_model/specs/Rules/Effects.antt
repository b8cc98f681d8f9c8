-- What an act comes to: on the part of the state that it touches, and in the state.
use Rattle.std.specs.Prelude.{ℕ, Bool, if◌then◌else◌, List, [], Option, Some, None, option_map, unwrap_or}
use Rattle.argo_base.specs.declared.errno.Errno.{Errno}
use Rattle.argo_model.specs.declared.action.Outcome.{Outcome}
use Rattle.argo_model.specs.declared.action.Outcome.TheVariants.{Refused}
use Rattle.argo_model.specs.Rules.State.{State, Live, Domain, change_domain, signal_all}

-- what an act on a part of the state comes to: its outcome, the part as it leaves it where it changes it, and whom it signals
pub record Change (X : Type 0) : Type 0 where
  pub outcome : Outcome
  pub left : Option X
  pub signals : List ℕ

-- the outcome, and all stays
abbrev pub answered : {X : Type 0} → Outcome → Change X
answered {X} o = record { outcome = o; left = None; signals = [] }

-- a refusal, and all stays
abbrev pub refused : {X : Type 0} → Errno → Change X
refused {X} e = answered {X = X} (Refused e)

-- the outcome, and the part is left so
abbrev pub leaving : {X : Type 0} → Outcome → X → Change X
leaving {X} o x = record { outcome = o; left = Some x; signals = [] }

-- refuses where the test holds, and else goes on
abbrev pub refuse_if : {X : Type 0} → Bool → Errno → Change X → Change X
refuse_if {X} test e rest = if test then refused {X = X} e else rest

-- a change of a part is one of the whole, where this word puts the part into it
abbrev pub lifted : {X Y : Type 0} → (X → Y) → Change X → Change Y
lifted {X} {Y} put c = record { outcome = c.outcome; left = option_map put c.left; signals = c.signals }

-- the part after the change
abbrev pub after : {X : Type 0} → X → Change X → X
after {X} x c = unwrap_or c.left x

-- what an action of a section comes to: its outcome, and the state after it
pub record Effect : Type 0 where
  pub outcome : Outcome
  pub state : State

-- the outcome, and the state stays
abbrev pub stays : Outcome → State → Effect
stays o s = record { outcome = o; state = s }

-- what a domain has alive is replaced
abbrev pub with_life : Live → Domain → Domain
with_life live x = record x { life = Some live }

abbrev pub set_left : State → ℕ → Option Live → State
set_left s d None = s
set_left s d (Some live) = change_domain s d (with_life live)

-- a change of what a domain has alive, in the state: the domains that it signals have their flags set then
abbrev pub change_in : State → ℕ → Change Live → Effect
change_in s d c = record { outcome = c.outcome; state = signal_all (set_left s d c.left) c.signals }
