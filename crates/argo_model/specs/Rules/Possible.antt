-- Which outcomes are possible for a script, by facts that never change in its runs.
use Rattle.std.specs.Prelude.{ℕ, Bool, true, false, ◌&&◌, ◌||◌, not, ◌==◌, nat_lt, if◌then◌else◌, List, [], ◌∷◌, flat_map}
use Rattle.std.specs.List.{list_any}
use Rattle.argo_base.specs.declared.errno.Errno.TheVariants.{Srch, Fault as efault, Exist, NoDev, Inval}
use Rattle.argo_base.specs.Match.{is_wildcard}
use Rattle.argo_model.specs.declared.scripts.Actor.{Actor}
use Rattle.argo_model.specs.declared.scripts.Actor.TheVariants.{Vcpu, Control}
use Rattle.argo_model.specs.declared.scripts.DomainLine.{DomainLine}
use Rattle.argo_model.specs.declared.line.Line.{Line}
use Rattle.argo_model.specs.declared.line.Line.TheVariants.{Destroy as DestroyLine}
use Rattle.argo_model.specs.declared.action.Action.{Action}
use Rattle.argo_model.specs.declared.action.Action.TheVariants.{Rest, Fetch, Put, Register, Unregister, Deliver, Sweep, Query, Look, Destroy, Reset, Create}
use Rattle.argo_model.specs.declared.action.Load.{Load}
use Rattle.argo_model.specs.declared.action.Load.TheVariants.{Body, Faulted, Refused as RefusedLoad}
use Rattle.argo_model.specs.declared.action.Outcome.{Outcome}
use Rattle.argo_model.specs.Runs.Script.{Script, has_domain}
use Rattle.argo_model.specs.Programs.Program.{caller_of}
use Rattle.argo_model.specs.Runs.Final.{accepted_size, is_accepted}
use Rattle.argo_model.specs.Rules.Outcomes.{can_have, is_among, is_refused, is_done, is_fault, is_gone}

-- what never changes in the runs of a script: its domain lines, and the domains that a control line destroys
pub record Facts : Type 0 where
  pub domains : List DomainLine
  pub destroyed : List ℕ

-- the domain that a line destroys
abbrev pub destroyed_by : Line → List ℕ
destroyed_by (DestroyLine d) = d ∷ []
destroyed_by line = []

abbrev pub facts_of : Script → Facts
facts_of s = record { domains = s.domains; destroyed = flat_map (λ x. flat_map destroyed_by x.lines) s.sections }

-- a control line destroys the domain
abbrev pub is_destroyed : Facts → ℕ → Bool
is_destroyed f d = list_any (λ x. x == d) f.destroyed

-- the domain line says that it is on
abbrev pub is_on_line : Facts → ℕ → Bool
is_on_line f d = list_any (λ l. (l.id == d) && l.on) f.domains

-- the domain line gives the page
abbrev pub gives_page : Facts → ℕ → ℕ → Bool
gives_page f d page = list_any (λ l. (l.id == d) && nat_lt page l.pages) f.domains

-- a domain may be found not to be alive: it is none of the script's, or a control line destroys it
abbrev pub may_be_away : Facts → ℕ → Bool
may_be_away f d = not (has_domain f.domains d) || is_destroyed f d

-- a section may be gone: a control line destroys its domain, or it names another generation than the first
abbrev pub may_be_gone : Facts → Actor → Bool
may_be_gone f (Vcpu d generation) = is_destroyed f d || not (generation == 1)
may_be_gone f Control = false

-- the other domain that an action names may be away: a single partner, or a receiver
abbrev pub other_may_be_away : Facts → Action → Bool
other_may_be_away f (Register port partner len pages fail_exist) = not (is_wildcard partner) && may_be_away f partner
other_may_be_away f (Deliver port to to_port kind load) = may_be_away f to
other_may_be_away f a = true

-- the other domain is on: a single partner, or a receiver
abbrev pub other_is_on : Facts → Action → Bool
other_is_on f (Register port partner len pages fail_exist) = is_wildcard partner || is_on_line f partner
other_is_on f (Deliver port to to_port kind load) = is_on_line f to
other_is_on f a = true

-- an action of which the caller must be on
abbrev pub needs_on : Action → Bool
needs_on Rest = false
needs_on (Fetch page off n) = false
needs_on (Put page off bytes) = false
needs_on (Register port partner len pages fail_exist) = true
needs_on (Unregister port partner) = true
needs_on (Deliver port to to_port kind load) = true
needs_on (Sweep serial) = true
needs_on (Query to to_port need) = true
needs_on Look = false
needs_on (Destroy dom) = false
needs_on (Reset dom) = false
needs_on (Create dom) = false

-- a fetch or a put of a page that the caller's domain line does not give
abbrev pub misses_page : Facts → ℕ → Action → Bool
misses_page f d (Fetch page off n) = not (gives_page f d page)
misses_page f d (Put page off bytes) = not (gives_page f d page)
misses_page f d a = false

-- a ring that stands refuses a registration that asked for that; other actions may meet what stands as well
abbrev pub asks_for_new : Action → Bool
asks_for_new (Register port partner len pages fail_exist) = fail_exist
asks_for_new a = true

abbrev pub is_faulted : Load → Bool
is_faulted (Body bytes) = false
is_faulted (Faulted n) = true
is_faulted (RefusedLoad e) = false

abbrev pub is_inval : Load → Bool
is_inval (Body bytes) = false
is_inval (Faulted n) = false
is_inval (RefusedLoad e) = is_among (Inval ∷ []) e

-- what a delivery has is a body that met a fault
abbrev pub delivers_fault : Action → Bool
delivers_fault (Deliver port to to_port kind load) = is_faulted load
delivers_fault a = true

-- what a delivery has is buffers that were refused as invalid
abbrev pub delivers_inval : Action → Bool
delivers_inval (Deliver port to to_port kind load) = is_inval load
delivers_inval a = true

-- what comes, comes only where the test holds
abbrev pub only_where : Bool → Bool → Bool
only_where comes test = not comes || test

-- a caller that is off has no other outcome of such an action than `Gone`, NODEV or SRCH; one that is on never has NODEV
abbrev pub keeps_on : Facts → ℕ → Outcome → Bool
keeps_on f d o =
    if is_on_line f d then not (is_refused (NoDev ∷ []) o) else is_gone o || is_refused (NoDev ∷ Srch ∷ []) o

-- the action can have the outcome, and each outcome that rests on a fact comes only where the fact holds
abbrev pub is_possible : Facts → Actor → Action → Outcome → Bool
is_possible f actor a o =
    can_have a o
    && only_where (is_gone o) (may_be_gone f actor)
    && only_where (is_refused (Srch ∷ []) o) (other_may_be_away f a)
    && only_where (needs_on a) (keeps_on f (caller_of actor) o)
    && only_where (is_done o || is_accepted (accepted_size o)) (other_is_on f a)
    && only_where (misses_page f (caller_of actor) a) (is_fault o || is_gone o)
    && only_where (is_refused (Exist ∷ []) o) (asks_for_new a)
    && only_where (is_refused (efault ∷ []) o) (delivers_fault a)
    && only_where (is_refused (Inval ∷ []) o) (delivers_inval a)
