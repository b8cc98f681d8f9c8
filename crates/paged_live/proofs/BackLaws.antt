-- Laws of pages that come back as they were lent, and of homes that are settled as they were.
use Rattle.std.proofs.Common.{◌≡◌, ◌≢◌, ℕ, suc, ◌+◌, ◌<◌, ◌≤◌, Bool, true, false, if◌then◌else◌, IsTrue, List, [], ◌∷◌, ◌++◌, length, take, drop, slice_index, Option, Some, None, unwrap_or, ⊎_elim, refl, sym, ap, ◌∙◌, subst, arith, length-drop}
use Rattle.std.specs.Prelude.{is_some, slice_index_or}
use Rattle.std.specs.List.{list_all}
use Rattle.std.proofs.Math.Seq.{take-append_seam, drop-append_seam}
use Rattle.std.proofs.lemmas.List.{same_lists, get_or_default, take-append-drop, drop-drop, length-take-le}
use Rattle.argo_base.specs.declared.ring_key.RingKey.{RingKey}
use Rattle.argo_base.proofs.SlotLaws.{legal, page_count_most}
use Rattle.argo_base.specs.Layout.{u32_bytes}
use Rattle.argo_base.specs.Numbers as numbers
use Rattle.argo_base.specs.Slots.{is_legal, is_place, page_count}
use Rattle.argo_base.specs.Splice.{splice}
use Rattle.argo_base.proofs.SpliceLaws.{take-splice_before, drop-splice_after}
use Rattle.argo_model.specs.Rules.RingBytes.{PagedRing, tx_word}
use Rattle.argo_model.specs.Rules.Register.{new_ring}
use Rattle.argo_model.specs.Rules.Starts.{started_ring, bytes_after_start}
use Rattle.argo_model.specs.Rules.State.{Ring}
use Rattle.guest_pages.specs.Pages.{page_at, can_lend, row_of, without, with_row}
use Rattle.guest_pages.specs.Rows.{numbers_of, row_bytes}
use Rattle.guest_pages.proofs.FlatLaws.{length-row_bytes}
use Rattle.ring_core.specs.Held.{Held, paged}
use Rattle.ring_core.specs.Restarts.{ring_on}
use Rattle.ring_core.proofs.TestLaws.{and_also}
use Rattle.paged_live.specs.declared.home.Home.{Home}
use Rattle.paged_live.specs.Homes.{home, home_at, settled, cleared}
use Rattle.paged_live.specs.Store.{piece}
use Rattle.paged_live.specs.Parts.{Parts, store_of, IsParts}
use Rattle.paged_live.proofs.PageLaws.{Differ, At, at_or_not}
use Rattle.paged_live.proofs.StoreLaws.{own_page, pages_differ}
use Rattle.paged_live.proofs.PartsLaws.{Found, found_stood}
use Rattle.paged_live.proofs.EndLaws.{written_back}
use Rattle.paged_live.proofs.HomeLaws.{AreWhole, length-cleared, cleared_other, length-settled, settled_at, settled_other, length-with_row, with_row_at, with_row_other, given_at, length-without, without_other}
use Rattle.paged_live.proofs.JoinLaws.{lends_differ, lends_alone}
use Rattle.paged_live.proofs.FreeLaws.{numbers-row_of, lent_in}

-- ---- rows of the same pages

front : (xs ys : List ℕ) → length xs ≡ 4096 → take 4096 (xs ++ ys) ≡ xs
front xs ys e = ap (λ k. take k (xs ++ ys)) (sym e) ∙ take-append_seam xs ys

behind : (xs ys : List ℕ) → length xs ≡ 4096 → drop 4096 (xs ++ ys) ≡ ys
behind xs ys e = ap (λ k. drop k (xs ++ ys)) (sym e) ∙ drop-append_seam xs ys

pub same_row : (r s : List (ℕ × List ℕ)) → AreWhole r → AreWhole s → numbers_of r ≡ numbers_of s → row_bytes r ≡ row_bytes s → r ≡ s
same_row [] [] wr ws n b = refl
same_row [] (q ∷ qs) wr ws n b = cc
same_row (p ∷ ps) [] wr ws n b = cc
same_row (p ∷ ps) (q ∷ qs) wr ws n b =
    let hp : length p.1 ≡ 4096 = wr 0 p (omega arith) in
    let hq : length q.1 ≡ 4096 = ws 0 q (omega arith) in
    let number : p.0 ≡ q.0 = ap (λ ns. slice_index ns 0) n in
    let bytes : p.1 ≡ q.1 = sym (front p.1 (row_bytes ps) hp) ∙ ap (take 4096) b ∙ front q.1 (row_bytes qs) hq in
    let rest = same_row ps qs (λ i d below. wr (suc i) d (omega arith)) (λ i d below. ws (suc i) d (omega arith)) (ap (drop 1) n)
    (sym (behind p.1 (row_bytes ps) hp) ∙ ap (drop 4096) b ∙ behind q.1 (row_bytes qs) hq) in
    ap (λ m. (m, p.1) ∷ ps) number ∙ ap (λ c. (q.0, c) ∷ ps) bytes ∙ ap (λ r. q ∷ r) rest

-- ---- a ring that started and gives its tx word back

same_again : (own : List ℕ) → 8 ≤ length own → splice own 4 (take 4 (drop 4 own)) ≡ own
same_again own long =
    let n : length (take 4 (drop 4 own)) ≡ 4 = length-take-le 4 (drop 4 own) (omega (arith, long, length-drop 4 own)) in
    ap (λ k. take 4 own ++ (take 4 (drop 4 own) ++ drop (4 + k) own)) n
    ∙ ap (λ zs. take 4 own ++ (take 4 (drop 4 own) ++ zs)) (sym (drop-drop 4 4 own))
    ∙ ap (λ zs. take 4 own ++ zs) (take-append-drop 4 (drop 4 own))
    ∙ take-append-drop 4 own

written_over : (own ws zs : List ℕ) → 8 ≤ length own → length ws ≡ 4 → length zs ≡ 4 → splice (splice own 4 ws) 4 zs ≡ splice own 4 zs
written_over own ws zs long w z =
    ap (λ xs. xs ++ (zs ++ drop (4 + length zs) (splice own 4 ws))) (take-splice_before own ws 4 0 4 (omega arith) (omega arith))
    ∙ ap (λ xs. take 4 own ++ (zs ++ xs)) (drop-splice_after own ws 4 (4 + length zs) (omega arith) (omega arith))

word_restored : (own : List ℕ) (r : Ring) → 8 ≤ length own → splice (bytes_after_start own r) 4 (take 4 (drop 4 own)) ≡ own
word_restored own r long = by (is_place r.len (tx_word own)) where
  n : length (take 4 (drop 4 own)) ≡ 4
  n = length-take-le 4 (drop 4 own) (omega (arith, long, length-drop 4 own))

  by : (b : Bool) → splice (if b then own else splice own 4 (u32_bytes (started_ring own r).tx)) 4 (take 4 (drop 4 own)) ≡ own
  by true = same_again own long
  by false = written_over own (u32_bytes (started_ring own r).tx) (take 4 (drop 4 own)) long refl n ∙ same_again own long

-- its pages are those that it was given
pub unstarted_is : (serial len : ℕ) (row u : List (ℕ × List ℕ)) (v : Held) (word : List ℕ) → AreWhole row → 0 < length row → AreWhole u
    → paged serial v ≡ ring_on serial len row → numbers_of u ≡ numbers_of v.row → row_bytes u ≡ splice (row_bytes v.row) 4 word
    → word ≡ take 4 (drop 4 (row_bytes row)) → u ≡ row
unstarted_is serial len row u v word whole some whole_u new ns bs is =
    let long = length-row_bytes row whole in
    same_row u row whole_u whole
    (ns ∙ ap (λ (p : PagedRing). p.ring.pages) new)
    (bs ∙ ap (λ (p : PagedRing). splice p.own 4 word) new
    ∙ ap (splice (bytes_after_start (row_bytes row) (new_ring serial len (numbers_of row))) 4) is
    ∙ word_restored (row_bytes row) (new_ring serial len (numbers_of row)) (omega (arith, long, some)))

-- ---- lists that say the same of each number

same_places : {X : Type 0} (xs ys : List (Option X)) → length xs ≡ length ys → ((n : ℕ) → slice_index_or xs n None ≡ slice_index_or ys n None) → xs ≡ ys
same_places xs ys long same =
    same_lists xs ys long (λ k d below. get_or_default xs k d None below ∙ same k ∙ get_or_default ys k None d (omega (arith, below, long)))

-- pages that are lent, and come back
pub lent_back : (x : Parts) → IsParts x → (ns : List ℕ) → IsTrue (can_lend x.private ns) → with_row (without x.private ns) (row_of x.private ns) ≡ x.private
lent_back x is ns can =
    same_places (with_row (without x.private ns) (row_of x.private ns)) x.private (length-with_row (without x.private ns) (row_of x.private ns) ∙ length-without x.private ns) by where
      row : List (ℕ × List ℕ)
      row = row_of x.private ns

      same : numbers_of row ≡ ns
      same = numbers-row_of x.private ns

      by : (n : ℕ) → page_at (with_row (without x.private ns) row) n ≡ page_at x.private n
      by n =
          ⊎_elim
          (λ (a : At ns n).
          let f = lends_alone x is ns can a.place a.below in
          let inside = is.store.inside (slice_index ns a.place) f.bytes f.is in
          let here : slice_index (numbers_of row) a.place ≡ slice_index ns a.place = ap (λ ms. slice_index ms a.place) same in
          ap (page_at (with_row (without x.private ns) row)) (sym a.is ∙ sym here)
          ∙ with_row_at (without x.private ns) row a.place (subst Differ (sym same) (lends_differ x is ns can)) (subst (λ ms. a.place < length ms) (sym same) a.below)
          (omega (arith, here, inside, length-without x.private ns))
          ∙ ap (λ (p : ℕ × List ℕ). Some p.1) (lent_in x is ns can a.place a.below)
          ∙ ap (λ o. Some (unwrap_or o [])) f.is ∙ sym f.is ∙ ap (page_at x.private) a.is)
          (λ none. with_row_other (without x.private ns) row n (subst (λ ms. (i : ℕ) → i < length ms → slice_index ms i ≢ n) (sym same) none)
          ∙ without_other x.private ns n none)
          (at_or_not ns n)

-- ---- a ring's own pages

module _ (x : Parts) (is : IsParts x) (key : RingKey) (a : Held) (f : Found x.rows key a) where
  -- their homes, cleared and settled again, are as they were
  pub resettled : settled key 0 (numbers_of a.row) (cleared (numbers_of a.row) x.homes) ≡ x.homes
  resettled =
      same_places (settled key 0 (numbers_of a.row) (cleared (numbers_of a.row) x.homes)) x.homes
      (length-settled key 0 (numbers_of a.row) (cleared (numbers_of a.row) x.homes) ∙ length-cleared (numbers_of a.row) x.homes) by where
        ns : List ℕ
        ns = numbers_of a.row

        differ : Differ ns
        differ = pages_differ (store_of x) is.store key (paged f.serial a) (found_stood x.rows key a f)

        by : (n : ℕ) → home_at (settled key 0 ns (cleared ns x.homes)) n ≡ home_at x.homes n
        by n =
            ⊎_elim
            (λ (t : At ns n).
            let inside = (own_page (store_of x) is.store key (paged f.serial a) (found_stood x.rows key a f) t.place t.below).0 in
            let homes = is.homes in
            ap (home_at (settled key 0 ns (cleared ns x.homes))) (sym t.is)
            ∙ settled_at key 0 ns (cleared ns x.homes) t.place differ t.below (omega (arith, inside, homes, length-cleared ns x.homes))
            ∙ ap (λ m. Some (home key m)) (omega arith)
            ∙ sym (is.store.known key (paged f.serial a) (found_stood x.rows key a f) t.place t.below) ∙ ap (home_at x.homes) t.is)
            (λ none. settled_other key 0 ns (cleared ns x.homes) n none ∙ cleared_other ns x.homes n none)
            (at_or_not ns n)

  -- they can be lent to it where it has given them back
  pub own_free : AreWhole a.row → IsTrue (numbers.all_differ (numbers_of a.row)) → IsTrue (can_lend (with_row x.private a.row) (numbers_of a.row))
  own_free whole distinct =
      and_also (list_all (λ n. is_some (page_at (with_row x.private a.row) n)) ns) (numbers.all_differ ns) (all_there ns (λ i below. ap is_some (there i below))) distinct where
        ns : List ℕ
        ns = numbers_of a.row

        there : (i : ℕ) → i < length ns → page_at (with_row x.private a.row) (slice_index ns i) ≡ Some (piece i (row_bytes a.row))
        there i below =
            given_at x.private a.row i whole (pages_differ (store_of x) is.store key (paged f.serial a) (found_stood x.rows key a f)) below
            (own_page (store_of x) is.store key (paged f.serial a) (found_stood x.rows key a f) i below).0

        all_there : (ms : List ℕ) → ((i : ℕ) → i < length ms → is_some (page_at (with_row x.private a.row) (slice_index ms i)) ≡ true)
            → IsTrue (list_all (λ n. is_some (page_at (with_row x.private a.row) n)) ms)
        all_there [] all = refl
        all_there (m ∷ ms) all =
            and_also (is_some (page_at (with_row x.private a.row) m)) (list_all (λ n. is_some (page_at (with_row x.private a.row) n)) ms) (all 0 (omega arith))
            (all_there ms (λ i below. all (suc i) (omega arith)))

-- a ring has few pages
pub few_pages : (len : ℕ) → IsTrue (is_legal len) → page_count len ≤ 4097
few_pages len test = page_count_most len (legal len test).most

-- homes that are cleared, settled, and written back each time
pub settled_back : (x : Parts) (key : RingKey) (old row : List (ℕ × List ℕ)) (ns : List ℕ) (n : ℕ) (at cleared_to from settled_to : List (Option Home)) → length x.homes ≡ n
    → row ≡ old → at ≡ x.homes → cleared_to ≡ cleared (numbers_of row) at → from ≡ take n (cleared_to ++ drop (length cleared_to) x.homes) → settled_to ≡ settled key 0 ns from
    → take n (settled_to ++ drop (length settled_to) (take n (cleared_to ++ drop (length cleared_to) x.homes))) ≡ settled key 0 ns (cleared (numbers_of old) x.homes)
settled_back x key old row ns n at cleared_to from settled_to long same at_is cleared_is from_is settled_is =
    let c : cleared_to ≡ cleared (numbers_of old) x.homes = cleared_is ∙ ap (λ r. cleared (numbers_of r) at) same ∙ ap (cleared (numbers_of old)) at_is in
    let c_long : length cleared_to ≡ n = ap length c ∙ length-cleared (numbers_of old) x.homes ∙ long in
    let s : settled_to ≡ settled key 0 ns (cleared (numbers_of old) x.homes) =
    settled_is ∙ ap (settled key 0 ns) (from_is ∙ written_back n cleared_to x.homes c_long ∙ c) in
    let s_long : length settled_to ≡ n = ap length s ∙ length-settled key 0 ns (cleared (numbers_of old) x.homes) ∙ length-cleared (numbers_of old) x.homes ∙ long in
    written_back n settled_to (take n (cleared_to ++ drop (length cleared_to) x.homes)) s_long ∙ s
