-- The lines of a text, and the words of a line.
use Rattle.std.specs.Prelude.{ℕ, ◌+◌, Bool, true, false, ◌||◌, not, ◌==◌, if◌then◌else◌, List, [], ◌∷◌}

-- a byte at the front of the first of these
abbrev pub onto_first : ℕ → List (List ℕ) → List (List ℕ)
onto_first b [] = (b ∷ []) ∷ []
onto_first b (l ∷ ls) = (b ∷ l) ∷ ls

-- what ends a line
abbrev pub is_line_feed : ℕ → Bool
is_line_feed b = b == 10

-- a byte in front of a text with these lines
abbrev pub line_byte : ℕ → List (List ℕ) → List (List ℕ)
line_byte b ls = if is_line_feed b then [] ∷ ls else onto_first b ls

-- the lines of a text: each ends at a line feed, and the last one may lack it
abbrev pub lines_of : List ℕ → List (List ℕ)
lines_of [] = []
lines_of (b ∷ bs) = line_byte b (lines_of bs)

-- a line without the carriage return at its end, if one is there; one before it is a byte of the line
abbrev pub without_return : List ℕ → List ℕ
without_return [] = []
without_return (b ∷ []) = if b == 13 then [] else b ∷ []
without_return (b ∷ c ∷ cs) = b ∷ without_return (c ∷ cs)

-- spaces and tabs stand between words
abbrev pub is_blank : ℕ → Bool
is_blank b = (b == 32) || (b == 9)

-- the text goes on with a word
abbrev pub goes_on : List ℕ → Bool
goes_on [] = false
goes_on (b ∷ bs) = not (is_blank b)

-- a byte in front of a text with these words, which it joins if the text goes on with a word
abbrev pub word_byte : ℕ → Bool → List (List ℕ) → List (List ℕ)
word_byte b joins ws = if is_blank b then ws else (if joins then onto_first b ws else (b ∷ []) ∷ ws)

-- the words of a line: its longest runs of bytes that are not blank
abbrev pub words_of : List ℕ → List (List ℕ)
words_of [] = []
words_of (b ∷ bs) = word_byte b (goes_on bs) (words_of bs)

-- a word begins with `#`
abbrev pub begins_comment : List ℕ → Bool
begins_comment [] = false
begins_comment (b ∷ bs) = b == 35

-- a line says nothing if it has no words, or its first one begins with `#`
abbrev pub is_skipped : List (List ℕ) → Bool
is_skipped [] = true
is_skipped (w ∷ ws) = begins_comment w

-- the number and the words of a line in front of those behind it, unless it says nothing
abbrev pub with_line : ℕ → List (List ℕ) → List (ℕ × List (List ℕ)) → List (ℕ × List (List ℕ))
with_line n ws rest = if is_skipped ws then rest else (n, ws) ∷ rest

-- the numbers and the words of the lines that say something, where the first line has the number n
abbrev pub said_from : ℕ → List (List ℕ) → List (ℕ × List (List ℕ))
said_from n [] = []
said_from n (l ∷ ls) = with_line n (words_of (without_return l)) (said_from (n + 1) ls)
