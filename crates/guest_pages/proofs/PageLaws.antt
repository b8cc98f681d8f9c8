-- Laws of the bytes of a page.
use Rattle.std.proofs.Common.{◌≡◌, ℕ, List, [], ◌++◌, length, take, Option, Some, None, sym, ap, ◌∙◌, arith, length-append}
use Rattle.std.specs.Prelude.{unwrap_or}
use Rattle.std.proofs.Math.Seq.{take-append_seam}
use Rattle.std.proofs.lemmas.List.{length-replicate, length-take-le, take-replicate}
use Rattle.guest_pages.specs.PageBytes.{zero_page, page_of, HoldsPage}

pub length-zero_page : length zero_page ≡ 4096
unfolding zero_page
length-zero_page = length-replicate {A = ℕ} 4096 0

-- a page has 4,096 bytes
pub length-page_of : (xs : List ℕ) → length (page_of xs) ≡ 4096
unfolding page_of
length-page_of xs = length-take-le 4096 (xs ++ zero_page) (omega (arith, length-append xs zero_page, length-zero_page))

-- where there are 4,096 bytes, they are the page
pub page_of-whole : (xs : List ℕ) → length xs ≡ 4096 → page_of xs ≡ xs
unfolding page_of
page_of-whole xs whole = ap (λ n. take n (xs ++ zero_page)) (sym whole) ∙ take-append_seam xs zero_page

-- a page that was never written is all zeros
pub page_of_none : page_of [] ≡ zero_page
unfolding page_of zero_page
page_of_none = take-replicate {X = ℕ} 4096 4096 0 (omega arith)

-- where a page's memory shows 4,096 bytes, there is a page
pub held_from_length : (o : Option (List ℕ)) → length (unwrap_or o []) ≡ 4096 → HoldsPage o
held_from_length None long = absurd (omega (arith, long))
held_from_length (Some p) long = long
