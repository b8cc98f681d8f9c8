-- Laws of the notices of a ring, by where a domain stands among them.
use Rattle.std.proofs.Common.{◌≡◌, ℕ, ◌<◌, true, false, nat_le, max, length, Some, None, is_none, is_some, unwrap_or, Ok, Err, sym, ap, ◌∙◌, subst, arith, ◌&&◌}
use Rattle.std.specs.Prelude.{IsTrue}
use Rattle.std.specs.Result.{MatchResult}
use Rattle.std.specs.List.{insert, remove, slice_get, refill, slice_index_or, slice_set}
use Rattle.std.specs.Ordering.{nat_cmp}
use Rattle.std.specs.BTreeMap.{is_at, insert_entry}
use Rattle.std.proofs.lemmas.Option.{get_or_from_slice_get, slice_get-get_or}
use Rattle.std.proofs.Math.ListN.{length-set}
use Rattle.arrayvec.proofs.ArrayVecLemmas.{items-with_items}
use Rattle.argo_base.specs.Limits.{most_notices}
use Rattle.argo_base.specs.Notices.{Notices, size_of, is_busy, noted, withdrawn}
use Rattle.pending_list.specs.Search.{place_of, rises_from}
use Rattle.pending_list.proofs.SearchLaws.{entry_at_place, lookup-found, remove-found}
use Rattle.pending_list.proofs.RiseLaws.{lookup-absent, remove-absent}

-- the domain has a notice, at a place
pub size-found : (ns : Notices) (d i : ℕ) (x : ℕ × ℕ) → Ok i ≡ place_of nat_cmp ns d → size_of ns d ≡ Some (slice_index_or ns i x).1
size-found ns d i x at = lookup-found nat_cmp ns d i x (sym at)

pub stands : (ns : Notices) (d i : ℕ) → Ok i ≡ place_of nat_cmp ns d → is_some (size_of ns d) ≡ true
stands ns d i at = ap is_some (size-found ns d i (0, 0) at)

pub not_busy : (ns : Notices) (d i : ℕ) → Ok i ≡ place_of nat_cmp ns d → is_busy ns d ≡ false
not_busy ns d i at = ap (λ o. is_none o && nat_le most_notices (length ns)) (size-found ns d i (0, 0) at)

pub noted-found : (ns : Notices) (d i n : ℕ) (e : ℕ × ℕ) → Ok i ≡ place_of nat_cmp ns d → slice_get ns i ≡ Some e → noted ns d n ≡ slice_set ns i (e.0, max n e.1)
noted-found ns d i n e at there =
    let size : unwrap_or (size_of ns d) 0 ≡ e.1 = ap (λ o. unwrap_or o 0) (size-found ns d i e at) ∙ ap (λ (y : ℕ × ℕ). y.1) (get_or_from_slice_get ns i e e there) in
    ap (λ v. insert_entry nat_cmp ns d (max n v)) size
    ∙ subst (λ r. MatchResult r (λ j. (x : ℕ × ℕ) → slice_get ns j ≡ Some x → insert_entry nat_cmp ns d (max n e.1) ≡ slice_set ns j (x.0, max n e.1))
    (λ j. insert_entry nat_cmp ns d (max n e.1) ≡ insert ns j (d, max n e.1))) (sym at) (entry_at_place nat_cmp ns d (max n e.1)) e there

pub withdrawn-found : (ns : Notices) (d i : ℕ) → Ok i ≡ place_of nat_cmp ns d → withdrawn ns d ≡ remove ns i
withdrawn-found ns d i at = remove-found nat_cmp ns d i (sym at)

-- the domain has none, and there is a gap for it
pub size-absent : (ns : Notices) (d i : ℕ) → IsTrue (rises_from 0 ns) → Err i ≡ place_of nat_cmp ns d → size_of ns d ≡ None
size-absent ns d i rising at = lookup-absent 0 ns d i rising (sym at)

pub busy_when_full : (ns : Notices) (d i : ℕ) → IsTrue (rises_from 0 ns) → Err i ≡ place_of nat_cmp ns d → is_busy ns d ≡ nat_le most_notices (length ns)
busy_when_full ns d i rising at = ap (λ o. is_none o && nat_le most_notices (length ns)) (size-absent ns d i rising at)

pub noted-absent : (ns : Notices) (d i n : ℕ) → IsTrue (rises_from 0 ns) → Err i ≡ place_of nat_cmp ns d → noted ns d n ≡ insert ns i (d, n)
noted-absent ns d i n rising at =
    let size : max n (unwrap_or (size_of ns d) 0) ≡ n = ap (λ o. max n (unwrap_or o 0)) (size-absent ns d i rising at) ∙ omega arith in
    ap (insert_entry nat_cmp ns d) size
    ∙ subst (λ r. MatchResult r (λ j. (x : ℕ × ℕ) → slice_get ns j ≡ Some x → insert_entry nat_cmp ns d n ≡ slice_set ns j (x.0, n))
    (λ j. insert_entry nat_cmp ns d n ≡ insert ns j (d, n))) (sym at) (entry_at_place nat_cmp ns d n)

pub withdrawn-absent : (ns : Notices) (d i : ℕ) → IsTrue (rises_from 0 ns) → Err i ≡ place_of nat_cmp ns d → withdrawn ns d ≡ ns
withdrawn-absent ns d i rising at = remove-absent (is_at (nat_cmp d)) ns (size-absent ns d i rising at)

-- the row that is found, raised, is the domain's notice raised
pub noted-raised : (ns before after : Notices) (d i n : ℕ) → Ok i ≡ place_of nat_cmp ns d → i < length ns → before ≡ ns
    → ((e : ℕ × ℕ) → slice_get before i ≡ Some e → after ≡ slice_set before i (e.0, max n e.1)) → refill (length ns) ns after ≡ noted ns d n
noted-raised ns before after d i n at below same raised =
    let e = slice_index_or ns i (0, 0) in
    let there : slice_get ns i ≡ Some e = slice_get-get_or ns i (0, 0) below in
    let set : after ≡ slice_set ns i (e.0, max n e.1) = raised e (ap (λ xs. slice_get xs i) same ∙ there) ∙ ap (λ xs. slice_set xs i (e.0, max n e.1)) same in
    let long : length after ≡ length ns = ap length set ∙ length-set ns i (e.0, max n e.1) in
    items-with_items (record { items = ns }) after long ∙ set ∙ sym (noted-found ns d i n e at there)
