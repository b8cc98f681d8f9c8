-- The words of a schedule, as they stand behind the first.
use Rattle.std.specs.Prelude.{◌≡◌, ℕ, List, [], ◌∷◌, ◌++◌, flat_map}
use Rattle.argo_model.specs.declared.closing.Run.{Run}
use Rattle.argo_model.specs.Runs.Report.{run_word}
use Rattle.report_read.specs.Schedule.{IsRun, IsSchedule}
use Rattle.report_read.specs.Numbers.{NoDigitNext}

-- the text begins with a space and the word of this run, whose digits end there, and goes on so
pub record IsWordThen (text : List ℕ) (r : Run) (rest : List ℕ) : Type 0 where
  pub text_is : text ≡ 32 ∷ (run_word r ++ rest)
  pub is_run : IsRun r
  pub stops : NoDigitNext rest

abbrev pub HasNoWord : List ℕ → Type 0
HasNoWord text = (r : Run) (rest : List ℕ) → ¬ IsWordThen text r rest

-- the words of runs, each behind a space
abbrev pub words_of : List Run → List ℕ
words_of rs = flat_map (λ r. 32 ∷ run_word r) rs

-- the text begins with the words of these runs and a line feed, and goes on so
pub record IsScheduleThen (text : List ℕ) (rs : List Run) (rest : List ℕ) : Type 0 where
  pub text_is : text ≡ words_of rs ++ 10 ∷ rest
  pub lawful : IsSchedule rs

abbrev pub HasNoSchedule : List ℕ → Type 0
HasNoSchedule text = (rs : List Run) (rest : List ℕ) → ¬ IsScheduleThen text rs rest

-- the text begins so with these runs, and with no others
pub record IsOnlySchedule (text : List ℕ) (rs : List Run) : Type 0 where
  pub rest : List ℕ
  pub is : IsScheduleThen text rs rest
  pub only : (others : List Run) (other_rest : List ℕ) → IsScheduleThen text others other_rest → others ≡ rs
