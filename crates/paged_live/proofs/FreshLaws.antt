-- Laws of a domain as it starts.
use Rattle.std.proofs.Common.{◌≡◌, ℕ, zero, suc, ◌*◌, ◌<◌, ◌≤◌, List, [], ◌++◌, length, replicate, Option, Some, None, ⊎_elim, false, refl, sym, ap, ◌∙◌, arith}
use Rattle.std.proofs.lemmas.Bool.{cases_lt}
use Rattle.std.proofs.lemmas.List.{get_or-replicate, get_or_past, length-replicate, replicate-append-replicate}
use Rattle.std.proofs.lemmas.Option.{same_Some, none-some}
use Rattle.std.specs.List.Sorted.{IsStrictlySortedBy}
use Rattle.argo_model.specs.Rules.State.{fresh_live}
use Rattle.guest_pages.specs.PageBytes.{zero_page}
use Rattle.guest_pages.proofs.PageLaws.{length-zero_page}
use Rattle.ring_core.specs.Flat.{flat}
use Rattle.paged_live.specs.declared.home.Home.{Home}
use Rattle.paged_live.specs.Store.{page_of, IsStore}
use Rattle.paged_live.specs.Parts.{Rows, Parts, store_of, seen, IsParts}
use Rattle.paged_live.proofs.PageLaws.{flat_same}
use Rattle.paged_live.proofs.StoreLaws.{alone_is}

-- so many pages of zeros, and no rings
abbrev pub fresh : ℕ → Parts
fresh count = record { private = replicate count (Some zero_page); homes = replicate count None; flag = false; next_serial = 1; rows = [] }

zeros : (k : ℕ) → flat (λ n. zero_page) k ≡ replicate (4096 * k) 0
unfolding zero_page
zeros zero = refl
zeros (suc k) =
    ap (λ b. b ++ replicate 4096 0) (zeros k) ∙ replicate-append-replicate (4096 * k) 4096 0 ∙ ap (λ n. replicate n 0) (omega arith)

page_there : (count n : ℕ) → n < count → (store_of (fresh count)).page n ≡ Some zero_page
page_there count n below = get_or-replicate count n (Some zero_page) None below

page_past : (count n : ℕ) → count ≤ n → (store_of (fresh count)).page n ≡ None
page_past count n past = get_or_past (replicate count (Some zero_page)) n None (omega (arith, length-replicate count (Some zero_page)))

no_home : (count n : ℕ) → (store_of (fresh count)).home n ≡ None
no_home count n =
    ⊎_elim
    (λ below. get_or-replicate count n None None below)
    (λ past. get_or_past (replicate count None) n None (omega (arith, length-replicate {A = Option Home} count None)))
    (cases_lt n count)

inside : (count n : ℕ) (p : List ℕ) → (store_of (fresh count)).page n ≡ Some p → n < count
inside count n p is = ⊎_elim (λ below. below) (λ past. absurd (none-some p (sym (page_past count n past) ∙ is))) (cases_lt n count)

fresh_store : (count : ℕ) → IsStore (store_of (fresh count))
fresh_store count =
    record {
      whole = λ n p is. ap length (same_Some p zero_page (sym is ∙ page_there count n (inside count n p is))) ∙ length-zero_page;
      inside = λ n p is. omega (arith, inside count n p is, length-replicate count (Some zero_page));
      apart = λ n p is. no_home count n;
      somewhere = λ n below page home. none-some zero_page (sym page ∙ page_there count n (omega (arith, below, length-replicate count (Some zero_page))));
      there = λ n h is. absurd (none-some h (sym (no_home count n) ∙ is));
      lies = λ n h is. absurd (none-some h (sym (no_home count n) ∙ is));
      known = λ key p is. absurd (none-some p is);
      sized = λ key p is. absurd (none-some p is);
    }

pub fresh_parts : (count : ℕ) → IsParts (fresh count)
unfolding IsStrictlySortedBy
fresh_parts count =
    record {
      homes = length-replicate {A = Option Home} count None ∙ sym (length-replicate count (Some zero_page));
      store = fresh_store count;
      named = record {
        rising = tt;
        key = λ k h is. absurd (none-some h is);
        young = λ k h is. absurd (none-some h is);
        first = omega arith;
        some = λ k h is. absurd (none-some h is);
        differ = λ k q g h is. absurd (none-some g is);
      };
    }

pub fresh_seen : (count : ℕ) → seen (fresh count) ≡ fresh_live count
fresh_seen count =
    ap (λ bs. record { bytes = bs; flag = false; next_serial = 1; rings = [] })
    (ap (flat (page_of (store_of (fresh count)))) (length-replicate count (Some zero_page))
    ∙ flat_same (page_of (store_of (fresh count))) (λ n. zero_page) count (λ n below. alone_is (store_of (fresh count)) n zero_page (page_there count n below))
    ∙ zeros count)

-- what is made of such pages and homes
pub same_start : (count : ℕ) (pages : List (Option (List ℕ))) (homes : List (Option Home)) (rows : Rows) → pages ≡ replicate count (Some zero_page) → homes ≡ replicate count None → rows ≡ []
    → record { private = pages; homes = homes; flag = false; next_serial = 1; rows = rows } ≡ fresh count
same_start count pages homes rows p h r =
    ap (λ ps. record { private = ps; homes = homes; flag = false; next_serial = 1; rows = rows }) p
    ∙ ap (λ hs. record { private = replicate count (Some zero_page); homes = hs; flag = false; next_serial = 1; rows = rows }) h
    ∙ ap (λ rs. record { private = replicate count (Some zero_page); homes = replicate count None; flag = false; next_serial = 1; rows = rs }) r
