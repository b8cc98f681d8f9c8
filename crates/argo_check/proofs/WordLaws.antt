-- Laws of the words of the command line.
use Rattle.std.proofs.Common.{◌≡◌, ℕ, zero, suc, ◌+◌, ◌-◌, ◌*◌, ◌^◌, ◌<◌, ◌≤◌, Bool, true, false, ◌&&◌, cond, nat_le, nat_lt, List, [], ◌∷◌, length, take, get_or, fold, Some, None, refl, sym, ap, arith, if◌then◌else◌}
use Rattle.std.specs.List.{list_all}
use Rattle.std.proofs.lemmas.Bool.Decides.{nat_tests}
use Rattle.argo_check.specs.Words.{is_digit, decimal_value, is_number}

abbrev more_digits : ℕ → List ℕ → ℕ
more_digits n digits = fold (λ m b. 10 * m + (b - 48)) n digits

-- more digits make no smaller number
grows : (n : ℕ) (digits : List ℕ) → n ≤ more_digits n digits
grows n [] = omega arith
grows n (d ∷ ds) = let h = grows (10 * n + (d - 48)) ds in omega (arith, h)

one_more : (n k : ℕ) (digits : List ℕ) (x : ℕ) → k < length digits → 10 * more_digits n (take k digits) + (get_or digits k x - 48) ≤ more_digits n digits
one_more n k [] x inside = absurd (omega arith)
one_more n zero (d ∷ ds) x inside = grows (10 * n + (d - 48)) ds
one_more n (suc k) (d ∷ ds) x inside = one_more (10 * n + (d - 48)) k ds x (omega arith)

not_four : (a b c d : Bool) → d ≡ false → (a && b && c && d) ≡ false
not_four true true true d h = h
not_four true true false d h = refl
not_four true false c d h = refl
not_four false b c d h = refl

not_less : (n : ℕ) → 2 ^ 64 ≤ n → nat_lt n (2 ^ 64) ≡ false
not_less n large = grind (arith, nat_tests)

-- a word whose first digits spell too large a number already is no number
pub no_number : (word : List ℕ) (k x : ℕ) → k < length word → 2 ^ 64 ≤ 10 * decimal_value (take k word) + (get_or word k x - 48)
    → None ≡ (if is_number word then Some (decimal_value word) else None)
no_number word k x inside large =
    let h : 2 ^ 64 ≤ decimal_value word = omega (arith, large, one_more 0 k word x inside) in
    let e : nat_lt (decimal_value word) (2 ^ 64) ≡ false = not_less (decimal_value word) h in
    let no : is_number word ≡ false = not_four (nat_le 1 (length word)) (nat_le (length word) 20) (list_all is_digit word) (nat_lt (decimal_value word) (2 ^ 64)) e in
    sym (ap (λ b. cond b (Some (decimal_value word)) None) no)
