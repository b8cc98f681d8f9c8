-- Laws of numbers at the start of a text.
use Rattle.std.proofs.Common.{◌≡◌, ◌≢◌, ℕ, zero, suc, ◌+◌, ◌^◌, ◌<◌, ◌≤◌, List, [], ◌∷◌, ◌++◌, length, get_or, MatchOption, Option, Some, None, Result, Ok, Err, refl, sym, ap, ◌∙◌, subst, arith}
use Rattle.std.specs.Fmt.{decimal}
use Rattle.std.specs.Char.{digit_value}
use Rattle.std.specs.Int.{IsOutOfRange}
use Rattle.std.specs.Result.{result_ok}
use Rattle.std.specs.Str.Parse.{AllDigits, digits_value, ParsesUnsigned}
use Rattle.std.proofs.lemmas.Str.Parse.{IsNumeralModel, numerals_by_value, tells_digits, parse_digits, digit_from_value}
use Rattle.std.proofs.lemmas.Fmt.{digits_decimal, decimal_digit, first_decimal, decimal-digits_value, parse-decimal, decimal_injective}
use Rattle.report_read.specs.Numbers.{NoDigitNext, IsNumberThen, HasNoNumber}

own : IsNumeralModel (AllDigits 10) (digits_value 10)
own = numerals_by_value (AllDigits 10) tells_digits

pub AllDigits-decimal : (n : ℕ) → n < 2 ^ 64 → AllDigits 10 (decimal n)
AllDigits-decimal n fits = digits_decimal own n fits

-- digits end where a byte is none, so they end in one place
pub same_digits : (ds es xs ys : List ℕ) → AllDigits 10 ds → AllDigits 10 es → NoDigitNext xs → NoDigitNext ys → ds ++ xs ≡ es ++ ys → (ds ≡ es) × (xs ≡ ys)
same_digits [] [] xs ys dh eh xh yh same = (refl, same)
same_digits [] (e ∷ es) [] ys dh eh xh yh same = cc
same_digits [] (e ∷ es) (x ∷ xs) ys dh eh xh yh same =
    let h : x ≡ e = cc in
    let P : ℕ → Type 0 = λ b. digit_value b < 10 in
    absurd (xh (subst P (sym h) eh.0))
same_digits (d ∷ ds) [] xs [] dh eh xh yh same = cc
same_digits (d ∷ ds) [] xs (y ∷ ys) dh eh xh yh same =
    let h : d ≡ y = cc in
    let P : ℕ → Type 0 = λ b. digit_value b < 10 in
    absurd (yh (subst P h dh.0))
same_digits (d ∷ ds) (e ∷ es) xs ys dh eh xh yh same =
    let h : d ≡ e = cc in
    let t : ds ++ xs ≡ es ++ ys = cc in
    let r = same_digits ds es xs ys dh.1 eh.1 xh yh t in
    let f : ds ≡ es = r.0 in
    (cc, r.1)

-- a text begins with one number
pub same_number : (text : List ℕ) (m n : ℕ) (xs ys : List ℕ) → IsNumberThen text m xs → IsNumberThen text n ys → (m ≡ n) × (xs ≡ ys)
same_number text m n xs ys one other =
    let s = same_digits (decimal m) (decimal n) xs ys (AllDigits-decimal m one.fits) (AllDigits-decimal n other.fits) one.stops other.stops (sym one.text_is ∙ other.text_is) in
    (decimal_injective m n one.fits other.fits s.0, s.1)

pub out_of_range : (b : ℕ) → IsOutOfRange 48 57 b → ¬ (digit_value b < 10)
out_of_range b out = λ h. let r = digit_from_value b h in grind (arith, r, out)

-- no number is written with a zero in front
pub zero_leads : (ds : List ℕ) (n : ℕ) → 1 < length ds → get_or ds 0 0 ≡ 48 → n < 2 ^ 64 → ds ≢ decimal n
zero_leads ds zero long first fits same =
    let e : length ds ≡ 1 = ap length (same ∙ decimal_digit 0 (omega arith)) in
    absurd (omega arith)
zero_leads ds (suc n) long first fits same =
    let h = first_decimal (suc n) (omega arith) fits in
    let e : get_or ds 0 0 ≡ get_or (decimal (suc n)) 0 0 = ap (λ xs. get_or xs 0 0) same in
    absurd (omega arith)

-- what digits are parsed to
pub parsed : {E : Type 0} (bs text : List ℕ) (r : Result ℕ E) → text ≡ bs → AllDigits 10 bs → (0 < length bs → get_or bs 0 0 ≡ 48 → length bs ≡ 1) → ParsesUnsigned 64 10 text r
    → MatchOption (result_ok r) ((n : ℕ) → n < 2 ^ 64 → bs ≢ decimal n) (λ n. (bs ≡ decimal n) × (n < 2 ^ 64))
parsed {E = E} bs text (Ok n) is digits leads h =
    let r : Result ℕ E = Ok n in
    let P : List ℕ → Type 0 = λ t. ParsesUnsigned 64 10 t r in
    let k = parse_digits own 64 bs r (subst P is h) digits in
    let Q : ℕ → Type 0 = λ m. m < 2 ^ 64 in
    (sym (ap decimal k.1 ∙ decimal-digits_value own bs digits k.0.0 (leads k.0.0) k.0.1), subst Q (sym k.1) k.0.1)
parsed {E = E} bs text (Err e) is digits leads h = λ n fits same.
    let r : Result ℕ E = Err e in
    let g : r ≡ Ok n = parse-decimal 64 n text r fits fits (is ∙ same) h in
    cc

-- the digits of a text and what stands behind them
pub read_number : (text ds rest : List ℕ) (n : ℕ) → text ≡ ds ++ rest → NoDigitNext rest → (ds ≡ decimal n) × (n < 2 ^ 64) → IsNumberThen text n rest
read_number text ds rest n whole stops is = record {
  text_is = whole ∙ ap (λ xs. xs ++ rest) is.0;
  fits = is.1;
  stops = stops;
}

pub read_none : (text ds rest : List ℕ) → text ≡ ds ++ rest → AllDigits 10 ds → NoDigitNext rest → ((n : ℕ) → n < 2 ^ 64 → ds ≢ decimal n) → HasNoNumber text
read_none text ds rest whole digits stops none = λ n other h.
    let s = same_digits ds (decimal n) rest other digits (AllDigits-decimal n h.fits) stops h.stops (sym whole ∙ h.text_is) in
    none n h.fits s.0
