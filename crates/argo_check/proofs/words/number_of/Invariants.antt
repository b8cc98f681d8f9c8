use Rattle.std.proofs.Common.{◌≡◌, ◌<◌, ◌≤◌, ◌^◌, true, take, length}
use Rattle.std.specs.List.{list_all}
use Rattle.argo_check.specs.Words.{is_digit, decimal_value}
use Rattle.argo_check.proofs.words.number_of.Given as goal

-- the number of the digits so far
abbrev pub invariant-loop-digit : goal.invariant-loop-digit
invariant-loop-digit l =
    (l.n ≡ decimal_value (take l.digit-index l.word)) × (l.n < 2 ^ 64) × (list_all is_digit (take l.digit-index l.word) ≡ true)
    × (1 ≤ length l.word) × (length l.word ≤ 20)
