-- Laws of how a check ends.
use Rattle.std.proofs.Common.{◌≡◌, ◌⊎◌, inl, inr, ℕ, ◌+◌, ◌≤◌, List, ◌++◌, length, Option, Some, None, sym, ap, ◌∙◌, subst, arith, unwrap_or}
use Rattle.std.proofs.lemmas.List.{append-nil, length-append}
use Rattle.argo_outside.specs.Source.{behind, IsAtEnd}
use Rattle.argo_check.specs.declared.words.Form.{Form}
use Rattle.argo_check.specs.declared.status.CheckStatus.{CheckStatus}
use Rattle.argo_check.specs.declared.status.CheckStatus.TheVariants as s
use Rattle.argo_check.specs.Check.{IsCheck, most_bytes}
use Rattle.argo_check.specs.Ends.{IsRead, IsChecked, IsCutShort, IsLeftOff, IfAnswer, IfUsage, IfSourceFault, IfSinkFault, IfNoMemory, AgreesWith}
use Rattle.argo_check.specs.Said.{WroteAPart, WroteWhole, Said}

module _ (form : Form) (left left_new written written_new : Option (List ℕ)) (read : List ℕ) (rose : Type 0) (is_read : IsRead left left_new read) where
  checked : (status : CheckStatus) → WroteWhole (IsCheck form read) written written_new status → IsChecked form left left_new written written_new status
  checked status h = record { read = read; is_read = is_read; text = h.0; due = h.1; whole = h.2 }

  cut_short : WroteAPart (IsCheck form read) written written_new → IsCutShort form left left_new written written_new
  cut_short h = record { read = read; is_read = is_read; status = h.0; text = h.1; due = h.2; cut = h.3 }

  -- a status that answers the input
  pub ends_answering : (status : CheckStatus) → Said (IsCheck form read) written written_new rose status
      → IfAnswer status (IsChecked form left left_new written written_new status)
  ends_answering s.Yes h = checked s.Yes h
  ends_answering (s.No line) h = checked (s.No line) h
  ends_answering s.Usage h = tt
  ends_answering s.SourceFault h = tt
  ends_answering s.SinkFault h = tt
  ends_answering (s.Script line kind) h = checked (s.Script line kind) h
  ends_answering s.NoMemory h = tt
  ends_answering s.Mark h = checked s.Mark h
  ends_answering s.Large h = checked s.Large h

  -- a text that is cut short
  pub ends_cut : (status : CheckStatus) → Said (IsCheck form read) written written_new rose status → IfSinkFault status (IsCutShort form left left_new written written_new)
  ends_cut s.Yes h = tt
  ends_cut (s.No line) h = tt
  ends_cut s.Usage h = tt
  ends_cut s.SourceFault h = tt
  ends_cut s.SinkFault h = cut_short h.1
  ends_cut (s.Script line kind) h = tt
  ends_cut s.NoMemory h = tt
  ends_cut s.Mark h = tt
  ends_cut s.Large h = tt

  -- want of memory
  pub ends_left_off : (status : CheckStatus) → Said (IsCheck form read) written written_new rose status → IfNoMemory status (IsLeftOff form left left_new written written_new)
  ends_left_off s.Yes h = tt
  ends_left_off (s.No line) h = tt
  ends_left_off s.Usage h = tt
  ends_left_off s.SourceFault h = tt
  ends_left_off s.SinkFault h = tt
  ends_left_off (s.Script line kind) h = tt
  ends_left_off s.NoMemory (inl same) = inl same
  ends_left_off s.NoMemory (inr cut) = inr (cut_short cut)
  ends_left_off s.Mark h = tt
  ends_left_off s.Large h = tt

  -- no other end
  pub ends_read : (status : CheckStatus) → Said (IsCheck form read) written written_new rose status
      → IfUsage status ⊥ × (IfSourceFault status ⊥ × IfSinkFault status rose)
  ends_read s.Yes h = (tt, (tt, tt))
  ends_read (s.No line) h = (tt, (tt, tt))
  ends_read s.Usage h = absurd h
  ends_read s.SourceFault h = absurd h
  ends_read s.SinkFault h = (tt, (tt, h.0))
  ends_read (s.Script line kind) h = (tt, (tt, tt))
  ends_read s.NoMemory h = (tt, (tt, tt))
  ends_read s.Mark h = (tt, (tt, tt))
  ends_read s.Large h = (tt, (tt, tt))

-- one byte more than an input may have were read: the input is too large
too_many : (form : Form) (read input : List ℕ) (status : CheckStatus) (text : List ℕ) → length read ≡ most_bytes + 1 → length read ≤ length input
    → IsCheck form read status text → IsCheck form input status text
too_many form read input s.Large text many more h = (omega (arith, many, more), h.1)
too_many form read input s.Mark text many more h = absurd (omega (arith, many, h.0))
too_many form read input s.Yes text many more h = absurd (omega (arith, many, h.few))
too_many form read input (s.No line) text many more h = absurd (omega (arith, many, h.few))
too_many form read input s.Usage text many more h = absurd (omega (arith, many, h.few))
too_many form read input s.SourceFault text many more h = absurd (omega (arith, many, h.few))
too_many form read input s.SinkFault text many more h = absurd (omega (arith, many, h.few))
too_many form read input (s.Script line kind) text many more h = absurd (omega (arith, many, h.few))
too_many form read input s.NoMemory text many more h = absurd (omega (arith, many, h.few))

-- what was read answers for all that the source told
same_check : (form : Form) (read : List ℕ) (left_new : Option (List ℕ)) (input : List ℕ) (status : CheckStatus) (text : List ℕ) → behind read left_new ≡ Some input
    → IsAtEnd left_new ⊎ (length read ≡ most_bytes + 1) → IsCheck form read status text → IsCheck form input status text
same_check form read None input status text told all h = cc
same_check form read (Some rest) input status text told (inl at_end) h =
    let whole : read ++ rest ≡ input = ap (λ o. unwrap_or o input) told in
    let P : List ℕ → Type 0 = λ xs. IsCheck form xs status text in
    subst P (sym (append-nil read) ∙ ap (λ ys. read ++ ys) (sym at_end) ∙ whole) h
same_check form read (Some rest) input status text told (inr many) h =
    let whole : read ++ rest ≡ input = ap (λ o. unwrap_or o input) told in
    let n = ap length whole in
    too_many form read input status text many (omega (arith, n, length-append read rest)) h

module _ (form : Form) (left left_new written written_new : Option (List ℕ)) (read : List ℕ) (rose : Type 0) (is_read : IsRead left left_new read) where
  told_answer : (input : List ℕ) (status : CheckStatus) → left ≡ Some input → WroteWhole (IsCheck form read) written written_new status
      → (text : List ℕ) × IsCheck form input status text
  told_answer input status here h = (h.0, same_check form read left_new input status h.0 (sym is_read.told ∙ here) is_read.all h.1)

  answer_on : (input : List ℕ) (status : CheckStatus) → left ≡ Some input → Said (IsCheck form read) written written_new rose status
      → IfAnswer status ((text : List ℕ) × IsCheck form input status text)
  answer_on input s.Yes here h = told_answer input s.Yes here h
  answer_on input (s.No line) here h = told_answer input (s.No line) here h
  answer_on input s.Usage here h = tt
  answer_on input s.SourceFault here h = tt
  answer_on input s.SinkFault here h = tt
  answer_on input (s.Script line kind) here h = told_answer input (s.Script line kind) here h
  answer_on input s.NoMemory here h = tt
  answer_on input s.Mark here h = told_answer input s.Mark here h
  answer_on input s.Large here h = told_answer input s.Large here h

  pub ends_agreeing : (status : CheckStatus) → Said (IsCheck form read) written written_new rose status → AgreesWith form left status
  ends_agreeing status h = λ input here. answer_on input status here h
