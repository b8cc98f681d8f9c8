-- Laws of how a run ends.
use Rattle.std.proofs.Common.{◌≡◌, ◌⊎◌, inl, inr, ℕ, ◌<◌, true, cond, List, ◌++◌, length, Option, Some, None, Result, Ok, Err, refl, sym, ap, ◌∙◌, subst, arith, nat_lt, unwrap_or}
use Rattle.std.proofs.lemmas.Bool.Decides.{nat_tests}
use Rattle.std.proofs.lemmas.List.{append-nil, length-append}
use Rattle.argo_outside.specs.Source.{behind, IsAtEnd}
use Rattle.argo_outside.specs.Sink.{appended}
use Rattle.argo_model.specs.Runs.Script.{Script}
use Rattle.script_text.specs.declared.kind.ScriptFault.{ScriptFault}
use Rattle.script_text.specs.declared.kind.ScriptKind.TheVariants.{Size}
use Rattle.script_text.specs.Scripts.{fault, scripts_of, script_of}
use Rattle.script_text.specs.Lines.{lines_of, said_from}
use Rattle.argo_laws.proofs.BesideLaws.{headline}
use Rattle.argo_run.specs.declared.input.Unread.{Unread}
use Rattle.argo_run.specs.declared.input.Unread.TheVariants as u
use Rattle.argo_run.specs.declared.status.Status.{Status}
use Rattle.argo_run.specs.declared.status.Status.TheVariants as s
use Rattle.argo_run.specs.declared.words.Way.{Way}
use Rattle.argo_run.specs.Due.{IsReport, IsDueForScript, IsDueFor, MaySplit, fault_text}
use Rattle.argo_run.specs.Ends.{IsRead, IsReadAs, IsCutShort, EndsBy, Agrees, AgreesWith, IsRun, RunsScript}
use Rattle.argo_run.specs.Outside.{Reading, Writing, SinkRose, IsCut}
use Rattle.argo_run.specs.Splits.{split_text}
use Rattle.argo_run.specs.Serve.{HasFault, IsCauseOf, Wrote, Refused, RanScript}

is_long : (n : ℕ) → 4194304 < n → nat_lt 4194304 n ≡ true
is_long n long = grind (arith, nat_tests)

-- a text of too many bytes is no script, whatever follows
too_long : (text : List ℕ) → 4194304 < length text → scripts_of text ≡ fault 0 Size
too_long text long = ap (λ b. cond b (fault 0 Size) (script_of (said_from 1 (lines_of text)))) (is_long (length text) long)

ended : (text : List ℕ) (left_new : Option (List ℕ)) (read : List ℕ) → behind text left_new ≡ Some read → IsAtEnd left_new ⊎ (length text ≡ 4194305) → scripts_of read ≡ scripts_of text
ended text None read told all = cc
ended text (Some rest) read told (inl at_end) =
    let whole : text ++ rest ≡ read = ap (λ o. unwrap_or o read) told in
    ap scripts_of (sym whole ∙ ap (λ ys. text ++ ys) at_end ∙ append-nil text)
ended text (Some rest) read told (inr long) =
    let whole : text ++ rest ≡ read = ap (λ o. unwrap_or o read) told in
    let n = length-append text rest in
    let longer : 4194304 < length (text ++ rest) = omega (arith, n, long) in
    let P : List ℕ → Type 0 = λ ys. 4194304 < length ys in
    too_long read (subst P whole longer) ∙ sym (too_long text (omega (arith, long)))

read_all : (script : Script) (read : List ℕ) (left_new : Option (List ℕ)) → scripts_of read ≡ Ok script → IsAtEnd left_new ⊎ (length read ≡ 4194305) → IsAtEnd left_new
read_all script read left_new is (inl at_end) = at_end
read_all script read left_new is (inr long) =
    let e : Ok script ≡ fault 0 Size = sym is ∙ too_long read (omega (arith, long)) in cc

-- what was read and is a script is all that there was
pub read_as : (script : Script) (r : Reading) (read : List ℕ) → IsRead r.left r.left_new read → scripts_of read ≡ Ok script → IsReadAs script r
read_as script r read is_read is = record { read = read; told = is_read.told; at_end = read_all script read r.left_new is is_read.all; is_script = is }

pub has_fault : (f : ScriptFault) (r : Reading) (read : List ℕ) → IsRead r.left r.left_new read → scripts_of read ≡ Err f → HasFault f r
has_fault f r read is_read is = record { read = read; is_read = is_read; no_script = is }

-- what was read answers for all that the source told
same_answer : (r : Reading) (text read : List ℕ) → IsRead r.left r.left_new text → r.left ≡ Some read → scripts_of read ≡ scripts_of text
same_answer r text read is_read here = ended text r.left_new read (sym is_read.told ∙ here) is_read.all

agrees_with : (r : Reading) (text : List ℕ) (status : Status) → IsRead r.left r.left_new text → Agrees (scripts_of text) status → AgreesWith r.left status
agrees_with r text status is_read agrees = λ read here.
    let P : Result Script ScriptFault → Type 0 = λ given. Agrees given status in
    subst P (sym (same_answer r text read is_read here)) agrees

whole_read : (script : Script) (r : Reading) → (is : IsReadAs script r) → IsRead r.left r.left_new is.read
whole_read script r is = record { told = is.told; all = inl is.at_end }

cut_due : (way : Way) (script : Script) (r : Reading) (w : Writing) (due : Status) (text : List ℕ) → IsReadAs script r → IsDueForScript way script due text
    → IsCut w text → IsCutShort way r w
cut_due way script r w due text is is_due cut =
    let P : Result Script ScriptFault → Type 0 = λ given. IsDueFor way given due text in
    record { read = is.read; is_read = whole_read script r is; due = due; text = text; is_due = subst P (sym is.is_script) is_due; cut = cut }

due_ends : (way : Way) (script : Script) (r : Reading) (w : Writing) (due : Status) (text : List ℕ) (status : Status) → IsReadAs script r
    → IsDueForScript way script due text → Wrote due text w status → EndsBy way r w status
due_ends way script r w due text s.Done is is_due wrote =
    let P : Status → Type 0 = λ st. IsDueForScript way script st text in
    let report : IsReport way script text = subst P wrote.0 is_due in
    record { script = script; is_read = is; text = text; report = report; headline = headline script report.schedule; whole = wrote.1 }
due_ends way script r w due text s.Usage is is_due wrote =
    let P : Status → Type 0 = λ st. IsDueForScript way script st text in absurd (subst P wrote.0 is_due)
due_ends way script r w due text s.SourceFault is is_due wrote =
    let P : Status → Type 0 = λ st. IsDueForScript way script st text in absurd (subst P wrote.0 is_due)
due_ends way script r w due text s.SinkFault is is_due wrote = (wrote.0, cut_due way script r w due text is is_due wrote.1)
due_ends way script r w due text (s.Script line kind) is is_due wrote =
    let P : Status → Type 0 = λ st. IsDueForScript way script st text in absurd (subst P wrote.0 is_due)
due_ends way script r w due text (s.Split x closed) is is_due wrote =
    let P : Status → Type 0 = λ st. IsDueForScript way script st text in
    let split : MaySplit way script x closed × (text ≡ split_text x) = subst P wrote.0 is_due in
    record { script = script; is_read = is; split = split.0; whole = wrote.1 ∙ ap (appended w.written) split.1 }
due_ends way script r w due text s.NoMemory is is_due (inl nothing) = inl nothing
due_ends way script r w due text s.NoMemory is is_due (inr cut) = inr (cut_due way script r w due text is is_due cut)

due_agrees : (way : Way) (script : Script) (w : Writing) (due : Status) (text : List ℕ) (status : Status) → IsDueForScript way script due text
    → Wrote due text w status → Agrees (Ok script) status
due_agrees way script w due text s.Done is_due wrote = (script, refl)
due_agrees way script w due text s.Usage is_due wrote =
    let P : Status → Type 0 = λ st. IsDueForScript way script st text in absurd (subst P wrote.0 is_due)
due_agrees way script w due text s.SourceFault is_due wrote = tt
due_agrees way script w due text s.SinkFault is_due wrote = tt
due_agrees way script w due text (s.Script line kind) is_due wrote =
    let P : Status → Type 0 = λ st. IsDueForScript way script st text in absurd (subst P wrote.0 is_due)
due_agrees way script w due text (s.Split x closed) is_due wrote = (script, refl)
due_agrees way script w due text s.NoMemory is_due wrote = tt

-- a script that there is, is run
abbrev IsRunIfRead : Way → Status → Result Script ScriptFault → Type 0
IsRunIfRead way status (Ok script) = IsRun way script status
IsRunIfRead way status (Err f) = Unit {0}

due_runs : (way : Way) (script : Script) (w : Writing) (due : Status) (text : List ℕ) (status : Status) → IsDueForScript way script due text
    → Wrote due text w status → (SinkRose w → ⊥) → IsRun way script status
due_runs way script w due text s.Done is_due wrote still = tt
due_runs way script w due text s.Usage is_due wrote still =
    let P : Status → Type 0 = λ st. IsDueForScript way script st text in subst P wrote.0 is_due
due_runs way script w due text s.SourceFault is_due wrote still =
    let P : Status → Type 0 = λ st. IsDueForScript way script st text in subst P wrote.0 is_due
due_runs way script w due text s.SinkFault is_due wrote still = still wrote.0
due_runs way script w due text (s.Script line kind) is_due wrote still =
    let P : Status → Type 0 = λ st. IsDueForScript way script st text in subst P wrote.0 is_due
due_runs way script w due text (s.Split x closed) is_due wrote still =
    let P : Status → Type 0 = λ st. IsDueForScript way script st text in (subst P wrote.0 is_due).0
due_runs way script w due text s.NoMemory is_due wrote still = tt

-- a script was read and run
pub ran : (way : Way) (script : Script) (r : Reading) (w : Writing) (status : Status) → IsReadAs script r → RanScript way script w status → RunsScript way r w status
ran way script r w status is (inl none) =
    let Out : Status → Type 0 = λ st. RunsScript way r w st in
    subst Out (sym none.0) (record { ends = inl none.1; agrees = λ read here. tt; complete = λ read script here is source_still still. tt })
ran way script r w status is (inr (due, text, is_due, wrote)) =
    let P : Result Script ScriptFault → Type 0 = λ given. Agrees given status in
    let Q : Result Script ScriptFault → Type 0 = IsRunIfRead way status in
    record {
      ends = due_ends way script r w due text status is is_due wrote;
      agrees = agrees_with r is.read status (whole_read script r is) (subst P (sym is.is_script) (due_agrees way script w due text status is_due wrote));
      complete = λ read other here other_is source_still still.
          subst Q (sym is.is_script ∙ sym (same_answer r is.read read (whole_read script r is) here) ∙ other_is) (due_runs way script w due text status is_due wrote still);
    }

-- the line of a script's fault is written with this status alone
abbrev IsOfFault : Status → Type 0
IsOfFault (s.Script line kind) = Unit {0}
IsOfFault _ = ⊥

cut_fault : (way : Way) (r : Reading) (w : Writing) (f : ScriptFault) → HasFault f r → IsCut w (fault_text f) → IsCutShort way r w
cut_fault way r w f cause cut =
    let P : Result Script ScriptFault → Type 0 = λ given. IsDueFor way given (s.Script f.line f.kind) (fault_text f) in
    record { read = cause.read; is_read = cause.is_read; due = s.Script f.line f.kind; text = fault_text f; is_due = subst P (sym cause.no_script) (refl, refl); cut = cut }

fault_ends : (way : Way) (r : Reading) (w : Writing) (f : ScriptFault) (status : Status) → HasFault f r
    → Wrote (s.Script f.line f.kind) (fault_text f) w status → EndsBy way r w status
fault_ends way r w f s.Done cause wrote = absurd (subst IsOfFault wrote.0 tt)
fault_ends way r w f s.Usage cause wrote = absurd (subst IsOfFault wrote.0 tt)
fault_ends way r w f s.SourceFault cause wrote = absurd (subst IsOfFault wrote.0 tt)
fault_ends way r w f s.SinkFault cause wrote = (wrote.0, cut_fault way r w f cause wrote.1)
fault_ends way r w f (s.Script line kind) cause wrote =
    let P : Status → Type 0 = λ st. EndsBy way r w st in
    subst P wrote.0 (record { read = cause.read; is_read = cause.is_read; no_script = cause.no_script; whole = wrote.1 })
fault_ends way r w f (s.Split x closed) cause wrote = absurd (subst IsOfFault wrote.0 tt)
fault_ends way r w f s.NoMemory cause (inl nothing) = inl nothing
fault_ends way r w f s.NoMemory cause (inr cut) = inr (cut_fault way r w f cause cut)

fault_agrees : (w : Writing) (f : ScriptFault) (status : Status) → Wrote (s.Script f.line f.kind) (fault_text f) w status → Agrees (Err f) status
fault_agrees w f s.Done wrote = absurd (subst IsOfFault wrote.0 tt)
fault_agrees w f s.Usage wrote = absurd (subst IsOfFault wrote.0 tt)
fault_agrees w f s.SourceFault wrote = tt
fault_agrees w f s.SinkFault wrote = tt
fault_agrees w f (s.Script line kind) wrote =
    let P : Status → Type 0 = λ st. Agrees (Err f) st in subst P wrote.0 refl
fault_agrees w f (s.Split x closed) wrote = absurd (subst IsOfFault wrote.0 tt)
fault_agrees w f s.NoMemory wrote = tt

-- there was no script to run
pub refused : (way : Way) (r : Reading) (w : Writing) (unread : Unread) (status : Status) → IsCauseOf unread r → Refused unread w status → RunsScript way r w status
refused way r w u.Source status rose is =
    let Out : Status → Type 0 = λ st. RunsScript way r w st in
    subst Out (sym is.0) (record {
      ends = record { rose = rose; nothing = is.1.nothing; count = is.1.count };
      agrees = λ read here. tt;
      complete = λ read script here is source_still still. source_still rose;
    })
refused way r w (u.Fault f) status cause is =
    let P : Result Script ScriptFault → Type 0 = λ given. Agrees given status in
    let Q : Result Script ScriptFault → Type 0 = IsRunIfRead way status in
    record {
      ends = fault_ends way r w f status cause is;
      agrees = agrees_with r cause.read status cause.is_read (subst P (sym cause.no_script) (fault_agrees w f status is));
      complete = λ read script here script_is source_still still.
          subst Q (sym cause.no_script ∙ sym (same_answer r cause.read read cause.is_read here) ∙ script_is) tt;
    }
refused way r w u.NoMemory status cause is =
    let Out : Status → Type 0 = λ st. RunsScript way r w st in
    subst Out (sym is.0) (record { ends = inl is.1.nothing; agrees = λ read here. tt; complete = λ read script here is source_still still. tt })
