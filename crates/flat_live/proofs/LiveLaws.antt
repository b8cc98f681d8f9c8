-- Laws of a domain's rings: one that is found, and one that is written in its place.
use Rattle.std.proofs.Common.{◌≡◌, ℕ, ◌/◌, IsTrue, List, length, map, filter, not, ◌==◌, Bool, true, false, if◌then◌else◌, Option, Some, None, option_map, unwrap_or, Result, Ok, Err, OnErr, refl, sym, ap, ◌∙◌, subst}
use Rattle.std.specs.Map.{lookup, set_value}
use Rattle.std.specs.BTreeMap.{is_at}
use Rattle.std.proofs.lemmas.Map.Steps.{set_value_same}
use Rattle.argo_base.specs.declared.ring_key.RingKey.{RingKey}
use Rattle.argo_base.specs.Match.{key_cmp}
use Rattle.argo_model.specs.Rules.State.{Ring, Live}
use Rattle.argo_model.specs.Rules.Effects.{Change, after, lifted}
use Rattle.argo_model.specs.Rules.RingBytes.{PagedRing, paged, set_paged, laid}
use Rattle.flat_live.specs.Memory.{are_there, stand_in}
use Rattle.argo_model.specs.Rules.Puts.{after_put, ring_after_put, clean_after, moves, touches, dirtied, byte_at}
use Rattle.argo_model.specs.Rules.Destroy.{ring_without, rings_without}
use Rattle.live_domain.proofs.EntryLaws.{all_pass-lookup, all_pass-set_value, all_pass-map, all_pass-filter}
use Rattle.flat_live.proofs.LaidLaws.{laid_own}

-- a ring that is found stands in the memory
pub found_stands : (count : ℕ) (rings : List (RingKey × Ring)) (key : RingKey) (r : Ring) → IsTrue (stand_in count rings)
    → lookup (is_at (key_cmp key)) rings ≡ Some r → IsTrue (are_there count r.pages)
found_stands count rings key r stand found = all_pass-lookup (λ r. are_there count r.pages) (is_at (key_cmp key)) rings r found stand

-- and so do all, after one on the same pages is written in its place
pub written_stands : (count : ℕ) (rings : List (RingKey × Ring)) (key : RingKey) (r new : Ring) → IsTrue (stand_in count rings)
    → lookup (is_at (key_cmp key)) rings ≡ Some r → new.pages ≡ r.pages → IsTrue (stand_in count (set_value (is_at (key_cmp key)) rings new))
written_stands count rings key r new stand found same =
    all_pass-set_value (λ r. are_there count r.pages) (is_at (key_cmp key)) rings new stand
    (subst (λ ps. IsTrue (are_there count ps)) (sym same) (found_stands count rings key r stand found))

-- what a domain has with a ring laid back as it is
same_paged : (live : Live) (key : RingKey) (r : Ring) → lookup (is_at (key_cmp key)) live.rings ≡ Some r → IsTrue (are_there (length live.bytes / 4096) r.pages)
    → set_paged live key (paged live.bytes r) ≡ live
same_paged live key r found there =
    ap (λ bs. record live { bytes = bs; rings = set_value (is_at (key_cmp key)) live.rings r }) (laid_own live.bytes r.pages there)
    ∙ ap (λ rs. record live { rings = rs }) (set_value_same (is_at (key_cmp key)) live.rings r found)

-- a change of a ring is one of what its owner has
pub lifted_after : (live : Live) (key : RingKey) (r : Ring) (c : Change PagedRing) → lookup (is_at (key_cmp key)) live.rings ≡ Some r
    → IsTrue (are_there (length live.bytes / 4096) r.pages)
    → set_paged live key (after (paged live.bytes r) c) ≡ after live (lifted (set_paged live key) c)
lifted_after live key r c found there = by c.left where
  by : (o : Option PagedRing) → set_paged live key (unwrap_or o (paged live.bytes r)) ≡ unwrap_or (option_map (set_paged live key) o) live
  by None = same_paged live key r found there
  by (Some p) = refl

-- what the owner has after one of its rings, and the memory, were written
pub ring_written : (live : Live) (key : RingKey) (r new : Ring) (memory : List ℕ) (q : PagedRing) (rings : List (RingKey × Ring))
    → rings ≡ set_value (is_at (key_cmp key)) live.rings new → new ≡ q.ring → new.pages ≡ r.pages
    → memory ≡ laid r.pages q.own live.bytes → record live { bytes = memory; rings = rings } ≡ set_paged live key q
ring_written live key r new memory q rings written is pages laid_so =
    ap (λ rs. record live { bytes = memory; rings = rs }) (written ∙ ap (set_value (is_at (key_cmp key)) live.rings) is)
    ∙ ap (λ bs. record live { bytes = bs; rings = set_value (is_at (key_cmp key)) live.rings q.ring })
    (laid_so ∙ ap (λ ps. laid ps q.own live.bytes) (sym pages ∙ ap (λ (x : Ring). x.pages) is))

-- after a ring was written back as it was, the owner has what it had
pub ring_back : (live : Live) (key : RingKey) (r new : Ring) (memory : List ℕ) (rings : List (RingKey × Ring)) → lookup (is_at (key_cmp key)) live.rings ≡ Some r
    → rings ≡ set_value (is_at (key_cmp key)) live.rings new → new ≡ r → memory ≡ live.bytes → record live { bytes = memory; rings = rings } ≡ live
ring_back live key r new memory rings found written same bytes =
    ap (λ bs. record live { bytes = bs; rings = rings }) bytes
    ∙ ap (λ rs. record live { rings = rs }) (written ∙ ap (set_value (is_at (key_cmp key)) live.rings) same ∙ set_value_same (is_at (key_cmp key)) live.rings r found)

-- what holds in any case holds after an error
pub in_any_case : {T E P : Type 0} (r : Result T E) → P → OnErr r P
in_any_case (Ok x) p = tt
in_any_case (Err e) p = p

-- ---- puts

cleaned_pages : (r : Ring) (at n : ℕ) (k : Option ℕ) → (clean_after r at n k).pages ≡ r.pages
cleaned_pages r at n (Some k) = refl
cleaned_pages r at n None = by (touches r.len at n) where
  by : (b : Bool) → (if b then dirtied r else r).pages ≡ r.pages
  by true = refl
  by false = refl

pub put_pages : (memory : List ℕ) (page off : ℕ) (bytes : List ℕ) (r : Ring) → (after_put memory page off bytes r).pages ≡ r.pages
put_pages memory page off bytes r = at (byte_at page off r) where
  clean : (b : Bool) (at : ℕ) → (if b then clean_after r at (length bytes) (moves (paged memory r) at bytes) else r).pages ≡ r.pages
  clean true at = cleaned_pages r at (length bytes) (moves (paged memory r) at bytes)
  clean false at = refl

  at : (o : Option ℕ) → (unwrap_or (option_map (λ at. ring_after_put (paged memory r) at bytes) o) r).pages ≡ r.pages
  at None = refl
  at (Some a) = clean r.clean a

-- the rings stand in the memory after a put
pub put_stands : (count : ℕ) (memory : List ℕ) (page off : ℕ) (bytes : List ℕ) (rings : List (RingKey × Ring)) → IsTrue (stand_in count rings)
    → IsTrue (stand_in count (map (λ e. (e.0, after_put memory page off bytes e.1)) rings))
put_stands count memory page off bytes rings stand =
    all_pass-map (λ r. are_there count r.pages) (λ r. are_there count r.pages) (after_put memory page off bytes)
    (λ r h. subst (λ ps. IsTrue (are_there count ps)) (sym (put_pages memory page off bytes r)) h) rings stand

-- and after some of them are forgotten
pub forget_stands : (count d : ℕ) (rings : List (RingKey × Ring)) → IsTrue (stand_in count rings) → IsTrue (stand_in count (rings_without d rings))
forget_stands count d rings stand =
    all_pass-map (λ r. are_there count r.pages) (λ r. are_there count r.pages) (ring_without d) (λ r h. h)
    (filter (λ (e : RingKey × Ring). not (e.0.partner == d)) rings)
    (all_pass-filter (λ (r : Ring). are_there count r.pages) (λ (e : RingKey × Ring). not (e.0.partner == d)) rings stand)
