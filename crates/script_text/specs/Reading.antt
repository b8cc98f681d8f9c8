-- A script line by line: what was read so far is a script itself.
use Rattle.std.specs.Prelude.{ℕ, Bool, true, false, ◌&&◌, ◌==◌, nat_le, not, List, [], ◌∷◌, ◌++◌, length, sum_by, Option, Some, None, IsSome, Result, Ok}
use Rattle.std.specs.List.{list_any}
use Rattle.argo_model.specs.declared.scripts.Actor.{Actor}
use Rattle.argo_model.specs.declared.scripts.Actor.TheVariants as actors
use Rattle.argo_model.specs.declared.line.Line.{Line}
use Rattle.argo_model.specs.Runs.Script.{Section, Script, turns_of, is_control, are_domains_within}
use Rattle.script_text.specs.declared.kind.ScriptKind.{ScriptKind}
use Rattle.script_text.specs.declared.kind.ScriptKind.TheVariants.{Word, Place, Limit}
use Rattle.script_text.specs.declared.verb.Verb.{Verb}
use Rattle.script_text.specs.declared.verb.Verb.TheVariants as verbs
use Rattle.script_text.specs.declared.entry.Entry.{Entry}
use Rattle.script_text.specs.declared.entry.Entry.TheVariants as entries
use Rattle.script_text.specs.Verbs.{verb_of}
use Rattle.script_text.specs.Entries.{◌>>=◌, or_fault, unless, entry_of}

-- who works through the last section, if there is one
abbrev pub last_actor : List Section → Option Actor
last_actor [] = None
last_actor (x ∷ []) = Some x.actor
last_actor (x ∷ y ∷ ys) = last_actor (y ∷ ys)

-- it is a virtual CPU
abbrev pub is_vcpu : Option Actor → Bool
is_vcpu None = false
is_vcpu (Some (actors.Vcpu d generation)) = true
is_vcpu (Some actors.Control) = false

-- it is the control section
abbrev pub is_controller : Option Actor → Bool
is_controller None = false
is_controller (Some (actors.Vcpu d generation)) = false
is_controller (Some actors.Control) = true

-- Domains come before the first section, and the control section once. Other lines stand in a section of their kind.
abbrev pub is_in_place : Script → Verb → Bool
is_in_place s verbs.Domain = length s.sections == 0
is_in_place s verbs.Vcpu = true
is_in_place s verbs.Control = not (list_any (λ x. is_control x.actor) s.sections)
is_in_place s verbs.Store = is_vcpu (last_actor s.sections)
is_in_place s verbs.Load = is_vcpu (last_actor s.sections)
is_in_place s verbs.Op = is_vcpu (last_actor s.sections)
is_in_place s verbs.Await = is_vcpu (last_actor s.sections)
is_in_place s verbs.Recv = is_vcpu (last_actor s.sections)
is_in_place s verbs.Destroy = is_controller (last_actor s.sections)
is_in_place s verbs.Reset = is_controller (last_actor s.sections)
is_in_place s verbs.Create = is_controller (last_actor s.sections)

-- a line at the end of the last section
abbrev pub add_line : Line → List Section → List Section
add_line l [] = []
add_line l (x ∷ []) = record { actor = x.actor; lines = x.lines ++ l ∷ [] } ∷ []
add_line l (x ∷ y ∷ ys) = x ∷ add_line l (y ∷ ys)

-- the script with what a line adds
abbrev pub with_entry : Script → Entry → Script
with_entry s (entries.Domain d) = record { version = s.version; domains = s.domains ++ d ∷ []; sections = s.sections }
with_entry s (entries.Section a) = record { version = s.version; domains = s.domains; sections = s.sections ++ record { actor = a; lines = [] } ∷ [] }
with_entry s (entries.Line l) = record { version = s.version; domains = s.domains; sections = add_line l s.sections }

-- how many lines the sections have
abbrev pub line_count : List Section → ℕ
line_count xs = sum_by (λ x. length x.lines) xs

-- how many turns their awaits have
abbrev pub turn_count : List Section → ℕ
turn_count xs = sum_by (λ x. sum_by turns_of x.lines) xs

-- The limits that an entry of this kind may pass: 64 domains and 32,768 pages, 64 sections, 8,192 lines and 1,048,576 turns.
abbrev pub is_within : Entry → Script → Bool
is_within (entries.Domain d) s = are_domains_within s.domains
is_within (entries.Section a) s = nat_le (length s.sections) 64
is_within (entries.Line l) s = nat_le (line_count s.sections) 8192 && nat_le (turn_count s.sections) 1048576

-- the script with what a line adds, if that passes no limit
abbrev pub added : Script → Entry → Result Script ScriptKind
added s e = unless (is_within e (with_entry s e)) Limit (Ok (with_entry s e))

-- the script with a line behind it, or the first check that fails: verb, place, the checks of the verb, limits
abbrev pub line_read : Script → List (List ℕ) → Result Script ScriptKind
line_read s [] = Ok s
line_read s (w ∷ ws) = do
  verb ← or_fault Word (verb_of s.version w)
  unless (is_in_place s verb) Place (do
    e ← entry_of s verb ws
    added s e)

-- a line of a section needs one
abbrev pub HasRoom : Entry → Script → Type 0
HasRoom (entries.Domain d) s = Unit {0}
HasRoom (entries.Section a) s = Unit {0}
HasRoom (entries.Line l) s = IsSome (last_actor s.sections)
