-- Laws of registrations.
use Rattle.std.proofs.Common.{◌≡◌, ℕ, ◌+◌, ◌*◌, ◌/◌, ◌<◌, Bool, true, false, not, ◌&&◌, nat_le, if◌then◌else◌, IsTrue, List, [], ◌∷◌, length, Some, slice_index, refl, sym, ap, ◌∙◌, arith}
use Rattle.std.specs.List.{list_all}
use Rattle.std.specs.Map.{set_value}
use Rattle.std.specs.BTreeMap.{is_at, insert_entry}
use Rattle.argo_base.specs.declared.errno.Errno.TheVariants.{Exist, NoSpc, Inval}
use Rattle.argo_base.specs.declared.ring_key.RingKey.{RingKey}
use Rattle.argo_base.specs.Layout.{u32_bytes}
use Rattle.argo_base.specs.Match.{key_cmp}
use Rattle.argo_base.specs.Slots.{is_place}
use Rattle.argo_base.specs.Splice.{splice}
use Rattle.argo_model.specs.declared.action.Outcome.TheVariants.{Done}
use Rattle.argo_model.specs.Rules.State.{Ring, Live, has_page}
use Rattle.argo_model.specs.Rules.Limits.{most_rings}
use Rattle.argo_model.specs.Rules.Effects.{answered, refuse_if}
use Rattle.argo_model.specs.Rules.Register.{all_differ, is_free_for, are_free_for, own_ring, has_ring, stands_so, register_allowed, register_anew, register_own}
use Rattle.argo_model.specs.Rules.RingBytes.{laid, ring_bytes, rx_word, tx_word, write_tx}
use Rattle.argo_model.specs.Rules.Starts.{start_place, bytes_after_start}
use Rattle.flat_live.specs.Memory.{are_there, stand_in}
use Rattle.flat_live.specs.Starts.{start_on, memory_with_start}
use Rattle.live_domain.proofs.EntryLaws.{all_pass-set_value, all_pass-insert_entry}
use Rattle.live_domain.proofs.TestLaws.{both, and_also}
use Rattle.flat_live.proofs.LaidLaws.{written, laid_own, length-ring_bytes}

-- a start is laid back
pub start_laid : (memory pages : List ℕ) (r : Ring) → 0 < length pages → IsTrue (are_there (length memory / 4096) pages) → IsTrue (all_differ pages)
    → memory_with_start memory (start_on memory r.len pages) ≡ laid pages (bytes_after_start (ring_bytes memory pages) r) memory
start_laid memory pages r some there differ = by (is_place r.len (tx_word (ring_bytes memory pages))) where
  by : (b : Bool) → (if b then memory else splice memory (4096 * slice_index pages 0 + 4) (u32_bytes (start_place r.len (rx_word (ring_bytes memory pages)) (tx_word (ring_bytes memory pages)))))
      ≡ laid pages (if b then ring_bytes memory pages else write_tx (start_place r.len (rx_word (ring_bytes memory pages)) (tx_word (ring_bytes memory pages))) (ring_bytes memory pages)) memory
  by true = sym (laid_own memory pages there)
  by false =
      let own = ring_bytes memory pages in
      let zs = u32_bytes (start_place r.len (rx_word own) (tx_word own)) in
      let four : 4096 * 0 + 4 ≡ 4 = omega arith in
      ap (λ m. splice m (4096 * slice_index pages 0 + 4) zs) (sym (laid_own memory pages there))
      ∙ written pages own memory zs 0 4 (length-ring_bytes memory pages there) there differ some (omega arith)
      ∙ ap (λ k. laid pages (splice own k zs) memory) four

-- pages that a ring may stand on are there, and differ
free_pages_there : (live : Live) (key : RingKey) (ps : List ℕ) → IsTrue (list_all (is_free_for live key) ps) → IsTrue (are_there (length live.bytes / 4096) ps)
free_pages_there live key [] h = refl
free_pages_there live key (p ∷ ps) h =
    let h = both (is_free_for live key p) (list_all (is_free_for live key) ps) h in
    and_also (has_page live p) (are_there (length live.bytes / 4096) ps) (both (has_page live p) _ h.0).0 (free_pages_there live key ps h.1)

pub free_there : (live : Live) (key : RingKey) (pages : List ℕ) → IsTrue (are_free_for live key pages) → IsTrue (are_there (length live.bytes / 4096) pages)
free_there live key pages free = free_pages_there live key pages (both (list_all (is_free_for live key) pages) (all_differ pages) free).0

-- the rings stand in the memory after one that does is written in another's place, or comes in
pub replaced_stands : (count : ℕ) (rings : List (RingKey × Ring)) (key : RingKey) (new : Ring) → IsTrue (stand_in count rings) → IsTrue (are_there count new.pages)
    → IsTrue (stand_in count (set_value (is_at (key_cmp key)) rings new))
replaced_stands count rings key new stand there = all_pass-set_value (λ (r : Ring). are_there count r.pages) (is_at (key_cmp key)) rings new stand there

pub inserted_stands : (count : ℕ) (rings : List (RingKey × Ring)) (key : RingKey) (new : Ring) → IsTrue (stand_in count rings) → IsTrue (are_there count new.pages)
    → IsTrue (stand_in count (insert_entry key_cmp rings key new))
inserted_stands count rings key new stand there = all_pass-insert_entry (λ (r : Ring). are_there count r.pages) key_cmp rings key new stand there

-- a ring that stands so already, and one that does not
pub allowed_stands : (live : Live) (key : RingKey) (len : ℕ) (pages : List ℕ) (r : Ring) → own_ring live key ≡ Some r → stands_so r len pages ≡ true
    → register_allowed live key len pages (own_ring live key) ≡ answered Done
allowed_stands live key len pages r found stands =
    ap (register_allowed live key len pages) found ∙ ap (λ b. if b then answered {X = Live} Done else register_anew live key r len pages) stands

pub allowed_anew : (live : Live) (key : RingKey) (len : ℕ) (pages : List ℕ) (r : Ring) → own_ring live key ≡ Some r → stands_so r len pages ≡ false
    → register_allowed live key len pages (own_ring live key) ≡ register_anew live key r len pages
allowed_anew live key len pages r found apart =
    ap (register_allowed live key len pages) found ∙ ap (λ b. if b then answered {X = Live} Done else register_anew live key r len pages) apart

-- a registration that nothing refuses
pub own_allowed : (live : Live) (key : RingKey) (len : ℕ) (pages : List ℕ) (fail_exist : Bool) → (has_ring live key && fail_exist) ≡ false
    → (not (has_ring live key) && nat_le most_rings (length live.rings)) ≡ false → are_free_for live key pages ≡ true
    → register_own live key len pages fail_exist ≡ register_allowed live key len pages (own_ring live key)
own_allowed live key len pages fail_exist old room free =
    let rest = register_allowed live key len pages (own_ring live key) in
    let last = refuse_if (not (are_free_for live key pages)) Inval rest in
    ap (λ b. refuse_if b Exist (refuse_if (not (has_ring live key) && nat_le most_rings (length live.rings)) NoSpc last)) old
    ∙ ap (λ b. refuse_if b NoSpc last) room
    ∙ ap (λ b. refuse_if (not b) Inval rest) free
