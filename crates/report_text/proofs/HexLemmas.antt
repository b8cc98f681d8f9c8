-- Hexadecimal digits are ASCII.
use Rattle.std.proofs.Common.{ℕ, suc, ◌/◌, ◌%◌, ◌<◌, false, List, [], ◌∷◌, get_or, arith}
use Rattle.std.specs.Fmt.{digit_glyph}
use Rattle.std.specs.Str.{IsAscii}
use Rattle.std.proofs.lemmas.Bool.Decides.{nat_tests}
use Rattle.std.proofs.lemmas.Str.Ascii.{IsAscii-nil, IsAscii-cons}
use Rattle.argo_model.specs.Runs.Report.{hex_of}

digit_glyph-ascii : (d : ℕ) → d < 16 → digit_glyph false d < 128
digit_glyph-ascii d small = grind (arith, nat_tests)

pub IsAscii-hex_of : (bytes : List ℕ) → ((i : ℕ) → get_or bytes i 0 < 256) → IsAscii (hex_of bytes)
IsAscii-hex_of [] fit = IsAscii-nil
IsAscii-hex_of (b ∷ bs) fit =
    let small : b < 256 = fit 0 in
    IsAscii-cons _ (digit_glyph false (b % 16) ∷ hex_of bs) (digit_glyph-ascii (b / 16) (omega arith))
    (IsAscii-cons _ (hex_of bs) (digit_glyph-ascii (b % 16) (omega arith)) (IsAscii-hex_of bs (λ i. fit (suc i))))
