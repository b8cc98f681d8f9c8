-- Laws of a message that is spelled in the slots of a ring: its header first, and then its body.
use Rattle.std.proofs.Common.{◌≡◌, ℕ, ◌+◌, ◌-◌, ◌<◌, ◌≤◌, IsTrue, List, ◌++◌, length, take, drop, ⊎_elim, refl, sym, ap, ◌∙◌, arith}
use Rattle.std.proofs.Math.Seq.{take-append-add, drop-append-add}
use Rattle.std.proofs.lemmas.List.{take_all, drop_all, take_at, drop_at}
use Rattle.std.proofs.lemmas.Bool.{cases_lt}
use Rattle.argo_base.specs.Slots.{is_legal, is_place, place_after}
use Rattle.argo_base.specs.Splice.{splice}
use Rattle.argo_base.proofs.SlotLaws.{legal, place, place_after-short, place_after-long}
use Rattle.argo_base.proofs.SpliceLaws.{splice-nil, splice-splice}
use Rattle.argo_model.specs.Rules.RingBytes.{write_slots}

-- bytes that do not reach the ring's end
write_slots-inside : (len at : ℕ) (bytes own : List ℕ) → length bytes ≤ len - at → write_slots len at bytes own ≡ splice own (64 + at) bytes
write_slots-inside len at bytes own inside =
    ap (λ b. splice (splice own (64 + at) b) 64 (drop (len - at) bytes)) (take_all (len - at) bytes inside)
    ∙ ap (λ b. splice (splice own (64 + at) bytes) 64 b) (drop_all (len - at) bytes inside)
    ∙ splice-nil (splice own (64 + at) bytes) 64

-- the body goes on behind the header
slots_short : (len at : ℕ) (head body own : List ℕ) → at + length head < len → 64 + len ≤ length own
    → write_slots len at (head ++ body) own ≡ write_slots len (at + length head) body (splice own (64 + at) head)
slots_short len at head body own short within =
    let r = len - (at + length head) in
    let n : len - at ≡ length head + r = omega arith in
    let next : 64 + at + length head ≡ 64 + (at + length head) = omega arith in
    ap (λ k. splice (splice own (64 + at) (take k (head ++ body))) 64 (drop k (head ++ body))) n
    ∙ ap (λ l. splice (splice own (64 + at) (take (length head + r) (head ++ body))) 64 l) (drop-append-add head body r)
    ∙ ap (λ l. splice (splice own (64 + at) l) 64 (drop r body)) (take-append-add head body r)
    ∙ ap (λ o. splice o 64 (drop r body)) (sym (splice-splice own head (take r body) (64 + at) (omega arith)))
    ∙ ap (λ a. splice (splice (splice own (64 + at) head) a (take r body)) 64 (drop r body)) next

-- or it begins at place 0
slots_full : (len at : ℕ) (head body own : List ℕ) → at + length head ≡ len → length body ≤ len
    → write_slots len at (head ++ body) own ≡ write_slots len 0 body (splice own (64 + at) head)
slots_full len at head body own full most =
    let n : len - at ≡ length head = omega arith in
    let start : 64 + 0 ≡ 64 = omega arith in
    let o = splice own (64 + at) head in
    ap (λ k. splice (splice own (64 + at) (take k (head ++ body))) 64 (drop k (head ++ body))) n
    ∙ ap (λ l. splice (splice own (64 + at) (take (length head) (head ++ body))) 64 l) (drop_at head body (length head) refl)
    ∙ ap (λ l. splice (splice own (64 + at) l) 64 body) (take_at head body (length head) refl)
    ∙ sym (write_slots-inside len 0 body o (omega arith) ∙ ap (λ k. splice o k body) start)

-- a header of 16 bytes and a body, from a place on
pub write_slots-head : (len at : ℕ) (head body own : List ℕ) → IsTrue (is_legal len) → IsTrue (is_place len at) → length head ≡ 16 → length body ≤ len
    → 64 + len ≤ length own
    → write_slots len at (head ++ body) own ≡ write_slots len (place_after len at 16) body (write_slots len at head own)
write_slots-head len at head body own is_legal_len is_place_at sixteen most within =
    let l = legal len is_legal_len in
    let p = place len at is_place_at in
    let even = l.even in
    let least = l.least in
    let step = p.even in
    let below = p.below in
    let one : write_slots len at head own ≡ splice own (64 + at) head = write_slots-inside len at head own (omega arith) in
    ⊎_elim
    (λ short.
    slots_short len at head body own short within
    ∙ ap (λ a. write_slots len a body (splice own (64 + at) head)) (ap (λ n. at + n) sixteen ∙ sym (place_after-short len at 16 (omega arith)))
    ∙ ap (write_slots len (place_after len at 16) body) (sym one))
    (λ long.
    let full : at + length head ≡ len = omega arith in
    let none : at + 16 - len ≡ 0 = omega arith in
    let next : place_after len at 16 ≡ 0 = place_after-long len at 16 (omega arith) (omega arith) ∙ none in
    slots_full len at head body own full most
    ∙ ap (λ a. write_slots len a body (splice own (64 + at) head)) (sym next)
    ∙ ap (write_slots len (place_after len at 16) body) (sym one))
    (cases_lt (at + length head) len)
