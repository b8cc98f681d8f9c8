-- Laws of what a fetch finds.
use Rattle.std.proofs.Common.{◌≡◌, ℕ, ◌+◌, ◌*◌, ◌<◌, ◌≤◌, true, false, if◌then◌else◌, List, length, take, drop, Option, Some, None, IfNone, sym, ap, ◌∙◌}
use Rattle.argo_base.specs.declared.ring_key.RingKey.{RingKey}
use Rattle.argo_model.specs.Rules.State.{Live, has_page}
use Rattle.argo_model.specs.Rules.Act as acts
use Rattle.argo_model.specs.declared.action.Outcome.TheVariants.{Bytes, Fault}
use Rattle.guest_pages.specs.Pages.{page_at}
use Rattle.guest_pages.specs.Rows.{row_bytes}
use Rattle.ring_core.specs.Held.{Held, paged}
use Rattle.paged_live.specs.Homes.{home, home_at}
use Rattle.paged_live.specs.Parts.{Parts, store_of, seen, IsParts}
use Rattle.paged_live.proofs.StoreLaws.{alone_is, lent_is, no_page}
use Rattle.paged_live.proofs.PartsLaws.{Found, found_stood}
use Rattle.paged_live.proofs.SizeLaws.{page_is_there, inside_is, part_of, memory_part}

-- what holds in any case holds where there is none
pub none_in_any_case : {T P : Type 0} (o : Option T) → P → IfNone o P
none_in_any_case None p = p
none_in_any_case (Some x) p = tt

pub fetch_there : (live : Live) (page off n : ℕ) → has_page live page ≡ true → acts.fetch live page off n ≡ Bytes (take n (drop (4096 * page + off) live.bytes))
fetch_there live page off n there = ap (λ t. if t then Bytes (take n (drop (4096 * page + off) live.bytes)) else Fault) there

pub fetch_absent : (live : Live) (page off n : ℕ) → has_page live page ≡ false → acts.fetch live page off n ≡ Fault
fetch_absent live page off n none = ap (λ t. if t then Bytes (take n (drop (4096 * page + off) live.bytes)) else Fault) none

-- out of a page that stands by itself
pub fetch_alone : (x : Parts) → IsParts x → (page off n : ℕ) (b : List ℕ) → off + n ≤ 4096 → page_at x.private page ≡ Some b
    → Bytes (take n (drop off b)) ≡ acts.fetch (seen x) page off n
fetch_alone x is page off n b fit at =
    let below : page < length x.private = is.store.inside page b at in
    let there : has_page (seen x) page ≡ true = page_is_there x is page ∙ inside_is page (length x.private) below in
    ap (λ p. Bytes (take n (drop off p))) (sym (alone_is (store_of x) page b at))
    ∙ ap Bytes (sym (memory_part x is page off n below fit))
    ∙ sym (fetch_there (seen x) page off n there)

-- out of one that stands in a ring
pub fetch_lent : (x : Parts) → IsParts x → (page off n place : ℕ) (key : RingKey) (a : Held) (f : Found x.rows key a) → off + n ≤ 4096 → home_at x.homes page ≡ Some (home key place)
    → Bytes (take n (drop (4096 * place + off) (row_bytes a.row))) ≡ acts.fetch (seen x) page off n
fetch_lent x is page off n place key a f fit lent =
    let below : page < length x.private = is.store.there page (home key place) lent in
    let there : has_page (seen x) page ≡ true = page_is_there x is page ∙ inside_is page (length x.private) below in
    let none = no_page (store_of x) is.store page (home key place) lent in
    ap Bytes (sym (part_of (row_bytes a.row) (4096 * place) off n fit))
    ∙ ap (λ p. Bytes (take n (drop off p))) (sym (lent_is (store_of x) page (home key place) (paged f.serial a) none lent (found_stood x.rows key a f)))
    ∙ ap Bytes (sym (memory_part x is page off n below fit))
    ∙ sym (fetch_there (seen x) page off n there)
