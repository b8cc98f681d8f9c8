-- Laws of the size of the memory, and of its parts.
use Rattle.std.proofs.Common.{◌≡◌, ℕ, ◌+◌, ◌-◌, ◌*◌, ◌/◌, ◌<◌, ◌≤◌, true, false, nat_lt, List, length, take, drop, sym, ap, ◌∙◌, arith}
use Rattle.std.proofs.lemmas.Bool.Decides.{nat_tests}
use Rattle.std.proofs.lemmas.List.{drop-drop, drop-take, take-take}
use Rattle.argo_model.specs.Rules.State.{has_page}
use Rattle.paged_live.specs.Store.{page_of}
use Rattle.paged_live.specs.Parts.{Parts, store_of, seen, IsParts}
use Rattle.paged_live.proofs.PageLaws.{length-flat, page_in_flat}
use Rattle.paged_live.proofs.StoreLaws.{are_pages}

pub length-memory : (x : Parts) → IsParts x → length (seen x).bytes ≡ 4096 * length x.private
length-memory x is = length-flat (page_of (store_of x)) (length x.private) (are_pages (store_of x) is.store)

div_page : (n k : ℕ) → n ≡ 4096 * k → n / 4096 ≡ k
div_page n k same = omega arith

pub page_is_there : (x : Parts) → IsParts x → (page : ℕ) → has_page (seen x) page ≡ nat_lt page (length x.private)
page_is_there x is page = ap (nat_lt page) (div_page (length (seen x).bytes) (length x.private) (length-memory x is))

pub inside_is : (page count : ℕ) → page < count → nat_lt page count ≡ true
inside_is page count below = grind (arith, nat_tests)

pub outside_is : (page count : ℕ) → count ≤ page → nat_lt page count ≡ false
outside_is page count past = grind (arith, nat_tests)

pub part_of : (xs : List ℕ) (base off n : ℕ) → off + n ≤ 4096 → take n (drop off (take 4096 (drop base xs))) ≡ take n (drop (base + off) xs)
part_of xs base off n fit =
    let k : off + (4096 - off) ≡ 4096 = omega arith in
    ap (λ m. take n (drop off (take m (drop base xs)))) (sym k)
    ∙ ap (take n) (drop-take off (4096 - off) (drop base xs))
    ∙ take-take n (4096 - off) (drop off (drop base xs)) (omega arith)
    ∙ ap (take n) (drop-drop off base xs)

pub memory_part : (x : Parts) → IsParts x → (page off n : ℕ) → page < length x.private → off + n ≤ 4096
    → take n (drop (4096 * page + off) (seen x).bytes) ≡ take n (drop off (page_of (store_of x) page))
memory_part x is page off n below fit =
    sym (part_of (seen x).bytes (4096 * page) off n fit)
    ∙ ap (λ p. take n (drop off p)) (page_in_flat (page_of (store_of x)) (length x.private) page (are_pages (store_of x) is.store) below)
