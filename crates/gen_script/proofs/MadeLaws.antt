-- The generator goes on, and lines and sections come one after another.
use Rattle.std.proofs.Common.{◌≡◌, ℕ, zero, suc, ◌+◌, ◌-◌, ◌*◌, [], ◌∷◌, ◌++◌, refl, sym, ap, ◌∙◌, arith}
use Rattle.std.specs.List.{range_with_len, flat_map}
use Rattle.std.proofs.lemmas.List.{flat_map_more}
use Rattle.argo_base.specs.Generator.{next_number, number_after}
use Rattle.gen_script.specs.Made.{opening_lines, round_from, lines_from, round_count, domain_count}

-- the draws of one after those of another
pub number_after-sum : (x a b : ℕ) → number_after x (a + b) ≡ number_after (number_after x a) b
number_after-sum x a zero = let e : a + 0 ≡ a = omega arith in ap (number_after x) e
number_after-sum x a (suc b) =
    let e : a + suc b ≡ suc (a + b) = omega arith in
    ap (number_after x) e ∙ ap next_number (number_after-sum x a b)

-- a number more
last : (a n j : ℕ) → a + n ≡ j → range_with_len a (suc n) ≡ range_with_len a n ++ j ∷ []
last a zero j e = let h : a ≡ j = omega arith in ap (λ x. x ∷ []) h
last a (suc n) j e = ap (λ xs. a ∷ xs) (last (a + 1) n j (omega arith))

-- a round more
pub lines_from-more : (x d k : ℕ) → lines_from x d (k + 1) ≡ lines_from x d k ++ round_from x d (k + 1)
lines_from-more x d k =
    let on : k + 1 ≡ suc k = omega arith in
    let e : 1 + k ≡ k + 1 = omega arith in
    ap (λ ks. opening_lines d ++ flat_map (round_from x d) ks) (ap (range_with_len 1) on ∙ last 1 k (k + 1) e)
    ∙ sym (flat_map_more (round_from x d) (opening_lines d) (range_with_len 1 k) (k + 1))

-- the numbers at the draws of a round
pub first_draw : (x k : ℕ) → number_after x (2 * (k + 1) - 1) ≡ number_after (number_after x (2 * k)) 1
first_draw x k = let e : 2 * (k + 1) - 1 ≡ 2 * k + 1 = omega arith in ap (number_after x) e ∙ number_after-sum x (2 * k) 1

pub second_draw : (x k : ℕ) → number_after x (2 * (k + 1)) ≡ number_after (number_after x (2 * k)) 2
second_draw x k = let e : 2 * (k + 1) ≡ 2 * k + 2 = omega arith in ap (number_after x) e ∙ number_after-sum x (2 * k) 2

-- the rounds are 200
pub rounds_are : 200 ≡ round_count
unfolding round_count
rounds_are = refl

-- the domains are 8
pub domains_are : 8 ≡ domain_count
unfolding domain_count
domains_are = refl
