-- How a check ends: what stands with each status.
use Rattle.std.specs.Prelude.{◌≡◌, ℕ, ◌+◌, ◌⊎◌, List, length, map, Option, Some, None, Vec, String, ⊤}
use Rattle.std.specs.Global.{Global}
use Rattle.std.specs.String.{string_bytes}
use Rattle.argo_outside.specs.Faults.{Rose}
use Rattle.argo_outside.specs.Source.{behind, IsAtEnd}
use Rattle.argo_outside.specs.Sink.{appended, CutShort}
use Rattle.argo_check.specs.declared.words.Form.{Form}
use Rattle.argo_check.specs.declared.status.CheckStatus.{CheckStatus}
use Rattle.argo_check.specs.declared.status.CheckStatus.TheVariants as s
use Rattle.argo_check.specs.Answers.{usage_text}
use Rattle.argo_check.specs.Check.{IsCheck, most_bytes}
use Rattle.argo_check.specs.Words.{form_of}

-- the bytes that were read: all of the source, or one more than an input may have
pub record IsRead (old new : Option (List ℕ)) (read : List ℕ) : Type 0 where
  pub told : old ≡ behind read new
  pub all : IsAtEnd new ⊎ (length read ≡ most_bytes + 1)

-- what was read was checked, and the text that is due was written whole
pub record IsChecked (form : Form) (left left_new written written_new : Option (List ℕ)) (status : CheckStatus) : Type 0 where
  pub read : List ℕ
  pub is_read : IsRead left left_new read
  pub text : List ℕ
  pub due : IsCheck form read status text
  pub whole : written_new ≡ appended written text

-- a part of the text that was due was written, and not all of it
pub record IsCutShort (form : Form) (left left_new written written_new : Option (List ℕ)) : Type 0 where
  pub read : List ℕ
  pub is_read : IsRead left left_new read
  pub status : CheckStatus
  pub text : List ℕ
  pub due : IsCheck form read status text
  pub cut : CutShort written written_new text

-- memory ran out before a byte was written, or while the text that was due was written
abbrev pub IsLeftOff : Form → Option (List ℕ) → Option (List ℕ) → Option (List ℕ) → Option (List ℕ) → Type 0
IsLeftOff form left left_new written written_new = (written_new ≡ written) ⊎ IsCutShort form left left_new written written_new

-- one condition for the statuses that answer the input, and one for each of the others; other ends meet it
abbrev pub IfAnswer : CheckStatus → Type 0 → Type 0
IfAnswer s.Usage P = ⊤
IfAnswer s.SourceFault P = ⊤
IfAnswer s.SinkFault P = ⊤
IfAnswer s.NoMemory P = ⊤
IfAnswer _ P = P

abbrev pub IfUsage : CheckStatus → Type 0 → Type 0
IfUsage s.Usage P = P
IfUsage _ P = ⊤

abbrev pub IfSourceFault : CheckStatus → Type 0 → Type 0
IfSourceFault s.SourceFault P = P
IfSourceFault _ P = ⊤

abbrev pub IfSinkFault : CheckStatus → Type 0 → Type 0
IfSinkFault s.SinkFault P = P
IfSinkFault _ P = ⊤

abbrev pub IfNoMemory : CheckStatus → Type 0 → Type 0
IfNoMemory s.NoMemory P = P
IfNoMemory _ P = ⊤

-- where the source tells its bytes, an answer is that on all of them
abbrev pub AgreesWith : Form → Option (List ℕ) → CheckStatus → Type 0
AgreesWith form left status = (input : List ℕ) → left ≡ Some input → IfAnswer status ((text : List ℕ) × IsCheck form input status text)

-- the status answers the input, or memory ran out
abbrev pub IsAnswerOrNoMemory : CheckStatus → Type 0
IsAnswerOrNoMemory s.Usage = ⊥
IsAnswerOrNoMemory s.SourceFault = ⊥
IsAnswerOrNoMemory s.SinkFault = ⊥
IsAnswerOrNoMemory _ = ⊤

-- where no count rose, the status answers the input, or memory ran out
abbrev pub AnswersWhereNothingFails : Type 0 → Type 0 → CheckStatus → Type 0
AnswersWhereNothingFails source_rose sink_rose status = (source_rose → ⊥) → (sink_rose → ⊥) → IsAnswerOrNoMemory status

-- the form of the words of the command line, where they have one
abbrev pub form_in : Vec (String Global) Global → Option Form
form_in words = form_of (map string_bytes words.items)

-- the words have a form, of which this holds
abbrev pub HasForm : Vec (String Global) Global → (Form → Type 0) → Type 0
HasForm words P = (form : Form) × (form_in words ≡ Some form) × P form

-- the two ends of a check with wrong words
abbrev pub IsUsageOrSinkFault : CheckStatus → Type 0
IsUsageOrSinkFault status = (status ≡ s.Usage) ⊎ (status ≡ s.SinkFault)

-- a part of the text that was due for the words was written, and not all of it
abbrev pub IsTextCutShort : Option Form → (left left_new written written_new : Option (List ℕ)) → Type 0
IsTextCutShort (Some form) left left_new written written_new = IsCutShort form left left_new written written_new
IsTextCutShort None left left_new written written_new = CutShort written written_new usage_text

-- how the program ends after its last flush: as the check did, with no fault more; or the sink counted one
abbrev pub EndsFlushed : ℕ → ℕ → CheckStatus → CheckStatus → Type 0
EndsFlushed faults faults_new status end =
    ((faults_new ≡ faults) × (end ≡ status)) ⊎ (Rose faults faults_new × (end ≡ s.SinkFault))
