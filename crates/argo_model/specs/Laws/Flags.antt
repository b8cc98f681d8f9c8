-- Which steps may set a flag, and which may clear it.
use Rattle.std.specs.Prelude.{◌≡◌, ℕ, Bool, ◌&&◌, IsTrue, is_some, is_none}
use Rattle.argo_model.specs.declared.action.Action.{Action}
use Rattle.argo_model.specs.declared.action.Action.TheVariants.{Register, Deliver, Sweep, Look, Destroy, Reset}
use Rattle.argo_model.specs.Programs.Program.{caller_of}
use Rattle.argo_model.specs.Runs.Final.{accepted_size, is_accepted}
use Rattle.argo_model.specs.Laws.Transitions.{Transition}
use Rattle.argo_model.specs.Laws.RingNames.{RingName, is_owner, notice_on}

-- the domain's notice on the ring of a name stood before the step, and stands no more
abbrev pub ended_notice : Transition → RingName → ℕ → Bool
ended_notice t name d = is_some (notice_on t.before name d) && is_none (notice_on t.after name d)

-- the actor ended a notice of the domain on a ring of its own
pub record EndsNotice (t : Transition) (d : ℕ) : Type 0 where
  pub name : RingName
  pub by_owner : IsTrue (is_owner t.actor name)
  pub ended : IsTrue (ended_notice t name d)

-- an accepted delivery to the domain, or a sweep or a registration that ends a notice of it
abbrev pub SetsBy : Action → Transition → ℕ → Type 0
SetsBy (Deliver port to to_port kind load) t d = (to ≡ d) × IsTrue (is_accepted (accepted_size t.step.outcome))
SetsBy (Sweep serial) t d = EndsNotice t d
SetsBy (Register port partner len pages fail_exist) t d = EndsNotice t d
SetsBy a t d = ⊥

abbrev pub SetsFlag : Transition → ℕ → Type 0
SetsFlag t d = SetsBy t.step.action t d

-- a look of the domain, its destruction, or its reset
abbrev pub ClearsBy : Action → Transition → ℕ → Type 0
ClearsBy Look t d = caller_of t.actor ≡ d
ClearsBy (Destroy dom) t d = dom ≡ d
ClearsBy (Reset dom) t d = dom ≡ d
ClearsBy a t d = ⊥

abbrev pub ClearsFlag : Transition → ℕ → Type 0
ClearsFlag t d = ClearsBy t.step.action t d
