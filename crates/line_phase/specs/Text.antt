-- What a put writes, and what follows it.
use Rattle.std.specs.Prelude.{ℕ, ◌*◌, List, []}
use Rattle.argo_base.specs.declared.errno.Errno.TheVariants.{Fault as efault}
use Rattle.argo_base.specs.Layout.{answer_bytes}
use Rattle.argo_model.specs.declared.line.Line.{Line}
use Rattle.argo_model.specs.declared.line.Line.TheVariants.{Store, Load, Op, Await, Recv, Destroy, Reset, Create}
use Rattle.line_phase.specs.declared.phase.Text.{Text}
use Rattle.line_phase.specs.declared.phase.Text.TheVariants.{Stored as StoredText, Answer}
use Rattle.argo_model.specs.declared.reply.Reply.TheVariants.{Stored, Fault}
use Rattle.argo_model.specs.Programs.Asks.{Next, Say, Rests, refusal}
use Rattle.argo_model.specs.Programs.Notify.{answer_entries}
use Rattle.line_phase.specs.Entries.{places_after, IsEntry}

-- the bytes of a store
abbrev pub stored_by : Line → List ℕ
stored_by (Store at bytes) = bytes
stored_by (Load at n) = []
stored_by (Op c a1 a2 a3 a4) = []
stored_by (Await turns) = []
stored_by (Recv page len) = []
stored_by (Destroy d) = []
stored_by (Reset d) = []
stored_by (Create d) = []

-- the bytes that are put
abbrev pub text_of : Line → Text → List ℕ
text_of line StoredText = stored_by line
text_of line (Answer a e) = answer_bytes a.flags 0 a.need a.most

-- what follows when all is put
abbrev pub after_put : Text → Rests
after_put StoredText os = Say Stored
after_put (Answer a e) os = answer_entries (places_after e) os

-- and when a page is not there
abbrev pub if_not_put : Text → Next
if_not_put StoredText = Say Fault
if_not_put (Answer a e) = refusal efault

-- an entry is one of at most 256
abbrev pub IsText : Text → Type 0
IsText StoredText = Unit {0}
IsText (Answer a e) = IsEntry e

-- how many actions follow at most
abbrev pub most_after_put : Text → ℕ
most_after_put StoredText = 0
most_after_put (Answer a e) = 5 * e.later
