-- What a reader has read, and what it counts meanwhile.
use Rattle.std.specs.Prelude.{◌≡◌, List, [], ◌∷◌, ◌++◌, sum_by, Option, Some, None}
use Rattle.std.specs.List.{list_any}
use Rattle.argo_model.specs.declared.scripts.Actor.{Actor}
use Rattle.argo_model.specs.declared.line.Line.{Line}
use Rattle.argo_model.specs.Runs.Script.{Section, Script, is_control}
use Rattle.script_text.specs.Reading.{line_count, turn_count}
use Rattle.script_text.specs.declared.reader.Reader.TheInside.{Inside}

-- the sections that are closed, and behind them the one that lines go to, if there is one
abbrev pub sections_of : List Section → Option Actor → List Line → List Section
sections_of parts None lines = parts
sections_of parts (Some actor) lines = parts ++ record { actor = actor; lines = lines } ∷ []

-- the sections that a reader has read
abbrev pub sections_in : Inside → List Section
sections_in r = sections_of r.parts r.actor r.lines

-- what a reader has read
abbrev pub script_in : Inside → Script
script_in r = record { version = r.version; domains = r.domains; sections = sections_in r }

-- the counts are those of what was read, and sections are closed only by the next one
pub record IsCounted (r : Inside) : Type 0 where
  pub pages : r.pages ≡ sum_by (λ d. d.pages) r.domains
  pub lines : r.line_count ≡ line_count (sections_in r)
  pub turns : r.turn_count ≡ turn_count (sections_in r)
  pub control : r.has_control ≡ list_any (λ x. is_control x.actor) (sections_in r)
  pub first : r.actor ≡ None → r.parts ≡ []
