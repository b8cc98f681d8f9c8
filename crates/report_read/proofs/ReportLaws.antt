-- Laws of the first two lines of a report.
use Rattle.std.proofs.Common.{◌≡◌, ◌≢◌, ℕ, List, [], ◌∷◌, ◌++◌, map, Option, Some, None, Result, Ok, Err, MatchOption, IfOk, IfErr, ◌⊎◌, inl, inr, refl, sym, ap, ◌∙◌, subst, append-nil, append_assoc}
use Rattle.std.specs.Prelude.{codes}
use Rattle.std.specs.Fmt.{digits}
use Rattle.std.specs.List.{join_with_byte}
use Rattle.std.specs.Option.{ok_or}
use Rattle.std.proofs.lemmas.List.{append_cancel_left}
use Rattle.argo_model.specs.declared.closing.Run.{Run}
use Rattle.argo_model.specs.Runs.Report.{run_word, opening_line, schedule_line}
use Rattle.report_read.specs.Schedule.{HasOpening, Names, IsRefusal}
use Rattle.report_read.specs.Words.{words_of, IsScheduleThen, HasNoSchedule, IsOnlySchedule}

pub opening_one : opening_line 1 ≡ codes "argo report 1\n"
unfolding digits
opening_one = refl

pub opening_two : opening_line 2 ≡ codes "argo report 2\n"
unfolding digits
opening_two = refl

join-words : (w : List ℕ) (rs : List Run) → join_with_byte 32 (w ∷ map run_word rs) ≡ w ++ words_of rs
join-words w [] = sym (append-nil w)
join-words w (r ∷ rs) = ap (λ t. w ++ (32 ∷ t)) (join-words (run_word r) rs)

schedule_text : (rs : List Run) (rest : List ℕ) → schedule_line rs ++ rest ≡ codes "schedule" ++ (words_of rs ++ 10 ∷ rest)
schedule_text rs rest =
    ap (λ t. (t ++ 10 ∷ []) ++ rest) (join-words (codes "schedule") rs) ∙ append_assoc (codes "schedule" ++ words_of rs) (10 ∷ []) rest
    ∙ append_assoc (codes "schedule") (words_of rs) (10 ∷ rest)

module _ (version : ℕ) (report rest : List ℕ) (opens : report ≡ opening_line version ++ rest) where
  behind_opening : (runs : List Run) (names : Names version runs report) → rest ≡ schedule_line runs ++ names.rest
  behind_opening runs names = append_cancel_left (opening_line version) rest (schedule_line runs ++ names.rest) (sym opens ∙ names.report_is)

  -- the second line does not begin as a schedule
  pub no_word : ((text : List ℕ) → rest ≢ codes "schedule" ++ text) → (runs : List Run) → ¬ Names version runs report
  no_word none runs names = none (words_of runs ++ 10 ∷ names.rest) (behind_opening runs names ∙ schedule_text runs names.rest)

  module _ (text : List ℕ) (begins : rest ≡ codes "schedule" ++ text) where
    schedule_of_names : (runs : List Run) (names : Names version runs report) → IsScheduleThen text runs names.rest
    schedule_of_names runs names = record {
      text_is = append_cancel_left (codes "schedule") text (words_of runs ++ 10 ∷ names.rest) (sym begins ∙ behind_opening runs names ∙ schedule_text runs names.rest);
      lawful = names.lawful;
    }

    names_of : (runs : List Run) → IsOnlySchedule text runs → Names version runs report
    names_of runs only = record {
      lawful = only.is.lawful;
      rest = only.rest;
      report_is = opens ∙ ap (λ t. opening_line version ++ t) (begins ∙ ap (λ t. codes "schedule" ++ t) only.is.text_is ∙ sym (schedule_text runs only.rest));
    }

    pub names_where : (o : Option (List Run)) → MatchOption o (HasNoSchedule text) (λ runs. IsOnlySchedule text runs) → IfOk (ok_or {E = ℕ} o 2) (λ runs. Names version runs report)
    names_where None h = tt
    names_where (Some runs) h = names_of runs h

    pub refused_where : (o : Option (List Run)) → MatchOption o (HasNoSchedule text) (λ runs. IsOnlySchedule text runs) → IfErr (ok_or {E = ℕ} o 2) (λ line. IsRefusal version report line)
    refused_where None h = inr (refl, (rest, opens), λ runs names. h runs names.rest (schedule_of_names runs names))
    refused_where (Some runs) h = tt

    pub only_where : (o : Option (List Run)) → MatchOption o (HasNoSchedule text) (λ runs. IsOnlySchedule text runs) → (runs : List Run) → Names version runs report → ok_or {E = ℕ} o 2 ≡ Ok runs
    only_where None h runs names = absurd (h runs names.rest (schedule_of_names runs names))
    only_where (Some found) h runs names = ap Ok (sym (h.only runs names.rest (schedule_of_names runs names)))

pub not_opened : (version : ℕ) (report : List ℕ) → ((rest : List ℕ) → report ≢ opening_line version ++ rest) → IsRefusal version report 1
not_opened version report none = inl (refl, λ h. none h.0 h.1)

pub not_named : (version : ℕ) (report : List ℕ) → ((rest : List ℕ) → report ≢ opening_line version ++ rest) → (runs : List Run) → ¬ Names version runs report
not_named version report none runs names = none (schedule_line runs ++ names.rest) names.report_is
