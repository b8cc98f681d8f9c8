-- Why a line of a script has its reply: its steps with their places in the schedule, and the reply.
use Rattle.std.specs.Prelude.{ℕ, ◌+◌, Bool, false, ◌&&◌, ◌==◌, nat_le, if◌then◌else◌, List, [], ◌∷◌, ◌++◌, length, flat_map, slice_get, codes, decimal, Option, Some, None}
use Rattle.argo_model.specs.declared.closing.DoneLine.{DoneLine}
use Rattle.argo_model.specs.declared.reply.Reply.{Reply}
use Rattle.argo_model.specs.declared.short.Short.{Short}
use Rattle.argo_model.specs.Rules.Shorts.{short_of}
use Rattle.argo_model.specs.Runs.Script.{Script, Section}
use Rattle.argo_model.specs.Runs.Run.{Step, run}
use Rattle.argo_model.specs.Runs.Final.{done_of}
use Rattle.argo_model.specs.Runs.Report.{line, reply_bytes}
use Rattle.argo_check.specs.declared.words.Place.{Place}

-- the section is there, and has so many lines
abbrev pub has_line : Option Section → ℕ → Bool
has_line None k = false
has_line (Some x) k = nat_le 1 k && nat_le k (length x.lines)

-- line k of section v is the line that is asked for
abbrev pub is_asked : Place → ℕ → ℕ → Bool
is_asked p v k = (v == p.vcpu) && (k == p.line)

-- an outcome as its two numbers
abbrev pub short_text : Short → List ℕ
short_text s = decimal s.tag ++ codes "." ++ decimal s.value

-- the step at a place of the schedule, and its outcome
abbrev pub step_line : ℕ → Short → List ℕ
step_line n outcome = line (codes "step" ∷ decimal n ∷ short_text outcome ∷ [])

-- the n-th step of a run, which is one of line k of section v, where that is the line that is asked for
abbrev pub shown_step : Place → ℕ → ℕ → ℕ → Short → List ℕ
shown_step p n v k outcome = if is_asked p v k then step_line n outcome else []

-- the steps of the line that is asked for, among steps of which the first is the n-th of a run
abbrev pub shown_from : Place → ℕ → List Step → List ℕ
shown_from p n [] = []
shown_from p n (t ∷ ts) = shown_step p n t.vcpu t.line (short_of t.outcome) ++ shown_from p (n + 1) ts

-- a reply
abbrev pub reply_line : Reply → List ℕ
reply_line r = line (codes "reply" ∷ reply_bytes r ∷ [])

-- the reply of that line
abbrev pub shown_reply : Place → DoneLine → List ℕ
shown_reply p d = if is_asked p d.vcpu d.line then reply_line d.reply else []

abbrev pub no_line_text : List ℕ
no_line_text = codes "no such line\n"

-- the steps of a line under a schedule, with their places there from 1, and then its reply
abbrev pub why_text : Place → Script → List ℕ → List ℕ
why_text p s schedule =
    if has_line (slice_get s.sections p.vcpu) p.line
    then shown_from p 1 (run s schedule).steps ++ flat_map (shown_reply p) (done_of (run s schedule).steps)
    else no_line_text
