-- How the replies of two sides differ, and their totals.
use Rattle.std.specs.Prelude.{ℕ, List, [], slice_get, slice_index_or, Option, Some, None}
use Rattle.std.specs.Option.{option_or}
use Rattle.argo_model.specs.declared.closed.HeardLine.{HeardLine}
use Rattle.argo_model.specs.declared.closing.Totals.{Totals}
use Rattle.argo_model.specs.Runs.Report.{reply_bytes}
use Rattle.audit.specs.declared.values.Values.{Values}
use Rattle.audit.specs.First.{differ, first_below, places, texts_differ, missing}

-- the text of a reply
abbrev pub text_of : Option HeardLine → List ℕ
text_of None = []
text_of (Some h) = reply_bytes h.reply

-- the step at which it came
abbrev pub step_of : Option HeardLine → ℕ
step_of None = 0
step_of (Some h) = h.step

-- how the replies of one section differ in their texts, line by line
abbrev pub texts_at : List HeardLine → List HeardLine → ℕ → Option Values
texts_at xs ys k = texts_differ (text_of (slice_get xs k)) (text_of (slice_get ys k))

abbrev pub lines_texts : List HeardLine → List HeardLine → Option Values
lines_texts xs ys = first_below (texts_at xs ys) (places xs ys)

-- and in their steps
abbrev pub steps_at : List HeardLine → List HeardLine → ℕ → Option Values
steps_at xs ys k = differ (step_of (slice_get xs k)) (step_of (slice_get ys k))

abbrev pub lines_steps : List HeardLine → List HeardLine → Option Values
lines_steps xs ys = first_below (steps_at xs ys) (places xs ys)

-- the replies of a section; a section that is not there has none
abbrev pub lines_of : List (List HeardLine) → ℕ → List HeardLine
lines_of heard v = slice_index_or heard v []

-- how the replies of all sections differ, section by section
abbrev pub texts_in : List (List HeardLine) → List (List HeardLine) → ℕ → Option Values
texts_in xs ys v = lines_texts (lines_of xs v) (lines_of ys v)

abbrev pub steps_in : List (List HeardLine) → List (List HeardLine) → ℕ → Option Values
steps_in xs ys v = lines_steps (lines_of xs v) (lines_of ys v)

abbrev pub heard_texts : List (List HeardLine) → List (List HeardLine) → Option Values
heard_texts xs ys = first_below (texts_in xs ys) (places xs ys)

abbrev pub heard_steps : List (List HeardLine) → List (List HeardLine) → Option Values
heard_steps xs ys = first_below (steps_in xs ys) (places xs ys)

-- a total of a section
abbrev pub total_of : (Totals → ℕ) → Option Totals → ℕ
total_of f None = missing
total_of f (Some t) = f t

-- the steps of a section, its accepted sends, and their bytes
abbrev pub section_totals : Option Totals → Option Totals → Option Values
section_totals x y =
    option_or (differ (total_of (λ t. t.steps) x) (total_of (λ t. t.steps) y))
    (option_or (differ (total_of (λ t. t.accepted) x) (total_of (λ t. t.accepted) y))
    (differ (total_of (λ t. t.bytes) x) (total_of (λ t. t.bytes) y)))

abbrev pub totals_at : List Totals → List Totals → ℕ → Option Values
totals_at xs ys v = section_totals (slice_get xs v) (slice_get ys v)

abbrev pub totals_differ : List Totals → List Totals → Option Values
totals_differ xs ys = first_below (totals_at xs ys) (places xs ys)
