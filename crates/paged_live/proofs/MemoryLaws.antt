-- Laws of the memory as it is copied, page after page.
use Rattle.std.proofs.Common.{◌≡◌, ℕ, zero, suc, ◌+◌, ◌*◌, ◌<◌, ◌≤◌, Bool, true, false, nat_lt, if◌then◌else◌, List, [], ◌∷◌, ◌++◌, length, take, drop, refl, sym, ap, ◌∙◌, arith}
use Rattle.std.proofs.lemmas.Bool.Decides.{nat_tests}
use Rattle.std.proofs.lemmas.List.{drop_all, take_all}
use Rattle.argo_model.specs.declared.action.Outcome.{Outcome}
use Rattle.argo_model.specs.declared.action.Outcome.TheVariants.{Bytes, Fault}
use Rattle.argo_model.specs.Rules.Act.{fetch}
use Rattle.argo_model.specs.Rules.State.{Live, has_page}
use Rattle.paged_live.specs.Parts.{Parts, seen, IsParts}
use Rattle.paged_live.proofs.SizeLaws.{page_is_there, length-memory}

-- a page that was fetched
pub page_read : (live : Live) (page : ℕ) (bytes : List ℕ) → Bytes bytes ≡ fetch live page 0 4096 → bytes ≡ take 4096 (drop (4096 * page) live.bytes)
page_read live page bytes is = by (has_page live page) is where
  inside : Outcome → List ℕ
  inside (Bytes bs) = bs
  inside o = []

  by : (there : Bool) → Bytes bytes ≡ (if there then Bytes (take 4096 (drop (4096 * page + 0) live.bytes)) else Fault)
      → bytes ≡ take 4096 (drop (4096 * page) live.bytes)
  by true h = ap inside h ∙ ap (λ n. take 4096 (drop n live.bytes)) (omega arith)
  by false h = cc

-- a page that is not there
pub page_none : (x : Parts) → IsParts x → (page : ℕ) (o : Outcome) → o ≡ fetch (seen x) page 0 4096 → ((bytes : List ℕ) → o ≡ Bytes bytes → ⊥)
    → [] ≡ take 4096 (drop (4096 * page) (seen x).bytes)
page_none x is page o said none = by (has_page (seen x) page) refl where
  by : (there : Bool) → has_page (seen x) page ≡ there → [] ≡ take 4096 (drop (4096 * page) (seen x).bytes)
  by true there =
      absurd (none (take 4096 (drop (4096 * page + 0) (seen x).bytes))
      (said ∙ ap (λ b. if b then Bytes (take 4096 (drop (4096 * page + 0) (seen x).bytes)) else Fault) there))
  by false there =
      let test : nat_lt page (length x.private) ≡ false = sym (page_is_there x is page) ∙ there in
      let past : length x.private ≤ page = grind (arith, nat_tests) in
      let long = length-memory x is in
      ap (take 4096) (sym (drop_all (4096 * page) (seen x).bytes (omega (arith, long, past))))

take_both : (n k : ℕ) (xs : List ℕ) → take (n + k) xs ≡ take n xs ++ take k (drop n xs)
take_both zero k xs = let on : zero + k ≡ k = omega arith in ap (λ m. take m xs) on
take_both (suc n) k [] = take_all (suc n + k) [] (omega arith) ∙ sym (take_all k [] (omega arith))
take_both (suc n) k (x ∷ xs) = let on : suc n + k ≡ suc (n + k) = omega arith in ap (λ m. take m (x ∷ xs)) on ∙ ap (λ r. x ∷ r) (take_both n k xs)

-- one page more
pub page_more : (k : ℕ) (xs : List ℕ) → take (4096 * (k + 1)) xs ≡ take (4096 * k) xs ++ take 4096 (drop (4096 * k) xs)
page_more k xs = let on : 4096 * (k + 1) ≡ 4096 * k + 4096 = omega arith in ap (λ m. take m xs) on ∙ take_both (4096 * k) 4096 xs

-- all of them
pub all_pages : (x : Parts) → IsParts x → (k : ℕ) → length x.private < k + 1 → take (4096 * k) (seen x).bytes ≡ (seen x).bytes
all_pages x is k past = let long = length-memory x is in take_all (4096 * k) (seen x).bytes (omega (arith, long))
