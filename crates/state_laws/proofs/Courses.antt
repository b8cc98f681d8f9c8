-- Laws of courses: the state of each is valid.
use Rattle.std.proofs.Common.{◌≡◌, ℕ, List, [], ◌∷◌, ◌++◌, length, ◌==◌, fold, slice_get, Option, Some, None, option_and_then, IsTrue, refl, sym, subst, arith}
use Rattle.std.proofs.lemmas.Bool.{and_parts}
use Rattle.std.proofs.lemmas.Bool.Decides.{nat_tests}
use Rattle.argo_base.specs.Slots.{is_legal, page_count}
use Rattle.argo_model.specs.declared.scripts.Actor.{Actor}
use Rattle.argo_model.specs.declared.scripts.Actor.TheVariants.{Vcpu, Control}
use Rattle.argo_model.specs.declared.line.Line.{Line}
use Rattle.argo_model.specs.declared.action.Action.{Action}
use Rattle.argo_model.specs.declared.action.Action.TheVariants.{Rest, Fetch, Put, Register, Unregister, Deliver, Sweep, Query, Look, Destroy, Reset, Create}
use Rattle.argo_model.specs.Programs.Program.{Next, Do, Say, program}
use Rattle.argo_model.specs.Rules.Act.{act}
use Rattle.argo_model.specs.Rules.Fit.{is_fit, is_fit_for, needs_no_caller}
use Rattle.argo_model.specs.Rules.State.{State}
use Rattle.argo_model.specs.Runs.Run.{Progress, Turn, Course, turn_to, turn_by, turn_at, turn, after_turn, start, step, run}
use Rattle.argo_model.specs.Runs.Script.{Script}
use Rattle.state_laws.specs.Valid.{IsValid}
use Rattle.state_laws.proofs.StateActs.{Lies, valid_act, valid_start}
use Rattle.state_laws.proofs.Asks.{IsLying}
use Rattle.state_laws.proofs.Programs.{lie_program}

-- an action that is fit lies so
pub lies : (a : Action) → IsTrue (is_fit a) → Lies a
lies Rest fit = tt
lies (Fetch page off n) fit = tt
lies (Put page off bytes) fit = grind (arith, nat_tests)
lies (Register port partner len pages fail_exist) fit = let p = and_parts (is_legal len) (length pages == page_count len) fit in (p.0, grind (arith, nat_tests))
lies (Unregister port partner) fit = tt
lies (Deliver port to to_port kind load) fit = tt
lies (Sweep after) fit = tt
lies (Query to to_port need) fit = tt
lies Look fit = tt
lies (Destroy d) fit = tt
lies (Reset d) fit = tt
lies (Create d) fit = tt

pub valid_fit : (actor : Actor) (a : Action) (s : State) → IsTrue (is_fit_for actor a) → IsValid s → IsValid (act actor a s).state
valid_fit (Vcpu d g) a s fit v = valid_act (Vcpu d g) a s (lies a fit) v
valid_fit Control a s fit v = valid_act Control a s (lies a (and_parts (is_fit a) (needs_no_caller a) fit).0) v

-- what a turn performs
pub record Performed (s : State) (p : Progress) (t : Turn) : Type 0 where
  pub lies : Lies t.action
  pub outcome : t.outcome ≡ (act p.actor t.action s).outcome
  pub state : t.state ≡ (act p.actor t.action s).state

some_turn : (a b : Turn) → Some a ≡ Some b → a ≡ b
some_turn a b h = cc

pub performed : (s : State) (p : Progress) (t : Turn) → turn s p ≡ Some t → Performed s p t
performed s p t h = at p.left h where
  to : (rest : List Line) (a : Action) → Lies a → (n : Next) → Some (turn_to p rest a (act p.actor a s) n) ≡ Some t → Performed s p t
  to rest a l (Do next) h = subst (Performed s p) (some_turn (turn_to p rest a (act p.actor a s) (Do next)) t h) (record { lies = l; outcome = refl; state = refl })
  to rest a l (Say reply) h = subst (Performed s p) (some_turn (turn_to p rest a (act p.actor a s) (Say reply)) t h) (record { lies = l; outcome = refl; state = refl })

  by : (line : Line) (rest : List Line) (n : Next) → IsLying n → turn_by s p line rest n ≡ Some t → Performed s p t
  by line rest (Do a) l h = to rest a l (program p.actor line (p.outcomes ++ (act p.actor a s).outcome ∷ [])) h
  by line rest (Say reply) l h = cc

  at : (ls : List Line) → turn_at s p ls ≡ Some t → Performed s p t
  at [] h = cc
  at (line ∷ rest) h = by line rest (program p.actor line p.outcomes) (lie_program p.actor line p.outcomes) h

pub valid_turn : (s : State) (p : Progress) (t : Turn) → turn s p ≡ Some t → IsValid s → IsValid t.state
valid_turn s p t h v = let d = performed s p t h in subst IsValid (sym d.state) (valid_act p.actor t.action s d.lies v)

pub valid_step : (c : Course) (v : ℕ) → IsValid c.state → IsValid (step c v).state
valid_step c v valid = by (slice_get c.sections v) where
  turned : (p : Progress) (o : Option Turn) → turn c.state p ≡ o → IsValid (after_turn c v o).state
  turned p None h = valid
  turned p (Some t) h = valid_turn c.state p t h valid

  by : (o : Option Progress) → IsValid (after_turn c v (option_and_then (turn c.state) o)).state
  by None = valid
  by (Some p) = turned p (turn c.state p) refl

valid_from : (c : Course) (vs : List ℕ) → IsValid c.state → IsValid (fold step c vs).state
valid_from c [] valid = valid
valid_from c (v ∷ vs) valid = valid_from (step c v) vs (valid_step c v valid)

pub valid_run : (s : Script) (schedule : List ℕ) → IsValid (run s schedule).state
valid_run s schedule = valid_from (start s) schedule (valid_start s.domains)
