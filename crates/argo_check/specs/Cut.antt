-- The mark between script and report.
use Rattle.std.specs.Prelude.{◌≡◌, ℕ, ◌≤◌, ◌⊎◌, List, [], ◌∷◌, ◌++◌, length, codes}

-- what ends where a line begins: nothing, or a text whose last byte is a line feed
abbrev pub EndsLine : List ℕ → Type 0
EndsLine text = (text ≡ []) ⊎ ((front : List ℕ) × (text ≡ front ++ 10 ∷ []))

-- a text begins with a line that is the mark, and goes on so
abbrev pub BeginsWithMark : List ℕ → List ℕ → Type 0
BeginsWithMark text rest = (text ≡ codes "%%\n" ++ rest) ⊎ ((text ≡ codes "%%") × (rest ≡ []))

-- a line that is exactly `%%` stands between these two parts. A carriage return is a byte of the line like any other
pub record IsMarkBetween (text script report : List ℕ) : Type 0 where
  pub behind : List ℕ
  pub text_is : text ≡ script ++ behind
  pub line_begins : EndsLine script
  pub mark : BeginsWithMark behind report

-- the text is cut at the first such line
pub record IsCut (text script report : List ℕ) : Type 0 where
  pub mark : IsMarkBetween text script report
  pub first : (before after : List ℕ) → IsMarkBetween text before after → length script ≤ length before

-- there is none
abbrev pub HasNoMark : List ℕ → Type 0
HasNoMark text = (before after : List ℕ) → ¬ IsMarkBetween text before after
