-- Laws of slots that hold messages: one more is written, or the first ones are taken.
use Rattle.std.proofs.Common.{◌≡◌, ℕ, zero, suc, ◌+◌, ◌-◌, ◌<◌, ◌≤◌, ◌⊎◌, List, [], ◌∷◌, ◌++◌, length, take, drop, get_or, ⊎_elim, inl, inr, refl, sym, ap, ◌∙◌, subst, arith, length-append, length-take, length-drop, get_or-take, get_or-drop, ext_get_or}
use Rattle.std.specs.Prelude.{sum_by}
use Rattle.std.proofs.lemmas.List.{length-take-le, get_or_append_left, get_or-append_right}
use Rattle.std.proofs.lemmas.List.Sums.{sum_by-cons, sum_by-take-drop}
use Rattle.std.proofs.lemmas.Bool.{cases_lt}
use Rattle.argo_base.specs.declared.message.Message.{Message}
use Rattle.argo_base.specs.Slots.{place_after}
use Rattle.argo_base.specs.Splice.{splice}
use Rattle.argo_base.proofs.SpliceLaws.{length-splice}
use Rattle.argo_base.proofs.SlotLaws.{place_after-short, place_after-long, place_after-zero, place_after-place_after, place_after_below, up_at_least}
use Rattle.argo_model.specs.Rules.Holds.{bytes_from, HoldsFrom}
use Rattle.argo_model.specs.Rules.Messages.{spell, room_of}

-- ---- bytes of a list

-- the first bytes of a list, by each of them
pub begins : (xs ys : List ℕ) → length ys ≤ length xs → ((i : ℕ) → i < length ys → get_or xs i 0 ≡ get_or ys i 0) → take (length ys) xs ≡ ys
begins xs ys long each =
    let l : length (take (length ys) xs) ≡ length ys = length-take-le (length ys) xs long in
    ext_get_or 0 (take (length ys) xs) ys l
    (λ i below. let less : i < length ys = subst (λ n. i < n) l below in get_or-take (length ys) xs i 0 less ∙ each i less)

pub begins_at : (xs ys : List ℕ) (i : ℕ) → take (length ys) xs ≡ ys → i < length ys → get_or xs i 0 ≡ get_or ys i 0
begins_at xs ys i same below = sym (get_or-take (length ys) xs i 0 below) ∙ ap (λ l. get_or l i 0) same

-- bytes of a list that was written over
pub splice_before : (xs ys : List ℕ) (at i : ℕ) → at ≤ length xs → i < at → get_or (splice xs at ys) i 0 ≡ get_or xs i 0
splice_before xs ys at i inside before =
    get_or_append_left (take at xs) (ys ++ drop (at + length ys) xs) 0 i (omega (arith, length-take-le at xs inside)) ∙ get_or-take at xs i 0 before

pub splice_in : (xs ys : List ℕ) (at i : ℕ) → at ≤ length xs → i < length ys → get_or (splice xs at ys) (at + i) 0 ≡ get_or ys i 0
splice_in xs ys at i inside below =
    let e : at + i - at ≡ i = omega arith in
    get_or-append_right (take at xs) (ys ++ drop (at + length ys) xs) at (at + i) 0 (length-take-le at xs inside) (omega arith)
    ∙ ap (λ k. get_or (ys ++ drop (at + length ys) xs) k 0) e
    ∙ get_or_append_left ys (drop (at + length ys) xs) 0 i below

pub splice_after : (xs ys : List ℕ) (at i : ℕ) → at ≤ length xs → at + length ys ≤ i → get_or (splice xs at ys) i 0 ≡ get_or xs i 0
splice_after xs ys at i inside behind =
    let e : at + length ys + (i - at - length ys) ≡ i = omega arith in
    get_or-append_right (take at xs) (ys ++ drop (at + length ys) xs) at i 0 (length-take-le at xs inside) (omega arith)
    ∙ get_or-append_right ys (drop (at + length ys) xs) (length ys) (i - at) 0 refl (omega arith)
    ∙ get_or-drop (at + length ys) xs (i - at - length ys) 0
    ∙ ap (λ k. get_or xs k 0) e

-- ---- slots, round the ring's end

-- slots after bytes were written from a place on: up to the end, and the rest from place 0 on
abbrev pub written : ℕ → ℕ → List ℕ → List ℕ → List ℕ
written len at bytes slots = splice (splice slots at (take (len - at) bytes)) 0 (drop (len - at) bytes)

module _ (len at : ℕ) (slots bytes : List ℕ) (sized : length slots ≡ len) (below : at < len) (fit : length bytes ≤ len) where
  first_fits : at + length (take (len - at) bytes) ≤ length slots
  first_fits = omega (arith, length-take (len - at) bytes)

  length-first : length (splice slots at (take (len - at) bytes)) ≡ len
  length-first = length-splice slots (take (len - at) bytes) at first_fits ∙ sized

  pub length-written : length (written len at bytes slots) ≡ len
  length-written = length-splice (splice slots at (take (len - at) bytes)) (drop (len - at) bytes) 0 (omega (arith, length-drop (len - at) bytes, length-first)) ∙ length-first

  -- what was written is there
  pub written_near : (k : ℕ) → k < length bytes → at + k < len → get_or (written len at bytes slots) (at + k) 0 ≡ get_or bytes k 0
  written_near k inside near =
      splice_after (splice slots at (take (len - at) bytes)) (drop (len - at) bytes) 0 (at + k) (omega arith) (omega (arith, length-drop (len - at) bytes))
      ∙ splice_in slots (take (len - at) bytes) at k (omega arith) (omega (arith, length-take (len - at) bytes))
      ∙ get_or-take (len - at) bytes k 0 (omega arith)

  pub written_far : (k : ℕ) → k < length bytes → len ≤ at + k → get_or (written len at bytes slots) (at + k - len) 0 ≡ get_or bytes k 0
  written_far k inside far =
      let e : 0 + (at + k - len) ≡ at + k - len = omega arith in
      let f : len - at + (at + k - len) ≡ k = omega arith in
      ap (λ i. get_or (written len at bytes slots) i 0) (sym e)
      ∙ splice_in (splice slots at (take (len - at) bytes)) (drop (len - at) bytes) 0 (at + k - len) (omega arith) (omega (arith, length-drop (len - at) bytes))
      ∙ get_or-drop (len - at) bytes (at + k - len) 0
      ∙ ap (λ i. get_or bytes i 0) f

  -- and all else stays
  pub kept_before : (j : ℕ) → j < at → at + length bytes ≤ j + len → get_or (written len at bytes slots) j 0 ≡ get_or slots j 0
  kept_before j before clear =
      splice_after (splice slots at (take (len - at) bytes)) (drop (len - at) bytes) 0 j (omega arith) (omega (arith, length-drop (len - at) bytes))
      ∙ splice_before slots (take (len - at) bytes) at j (omega arith) before

  pub kept_behind : (j : ℕ) → at + length bytes ≤ j → get_or (written len at bytes slots) j 0 ≡ get_or slots j 0
  kept_behind j behind =
      splice_after (splice slots at (take (len - at) bytes)) (drop (len - at) bytes) 0 j (omega arith) (omega (arith, length-drop (len - at) bytes))
      ∙ splice_after slots (take (len - at) bytes) at j (omega arith) (omega (arith, length-take (len - at) bytes))

module _ (len at : ℕ) (slots : List ℕ) (sized : length slots ≡ len) (below : at < len) where
  length-bytes_from : length (bytes_from at slots) ≡ len
  length-bytes_from = omega (arith, length-append (drop at slots) (take at slots), length-drop at slots, length-take at slots)

  -- the bytes from a place on, by their places
  from_near : (i : ℕ) → at + i < len → get_or (bytes_from at slots) i 0 ≡ get_or slots (at + i) 0
  from_near i near = get_or_append_left (drop at slots) (take at slots) 0 i (omega (arith, length-drop at slots)) ∙ get_or-drop at slots i 0

  from_far : (i : ℕ) → i < len → len ≤ at + i → get_or (bytes_from at slots) i 0 ≡ get_or slots (at + i - len) 0
  from_far i inside far =
      let e : i - (len - at) ≡ at + i - len = omega arith in
      get_or-append_right (drop at slots) (take at slots) (len - at) i 0 (omega (arith, length-drop at slots)) (omega arith)
      ∙ get_or-take at slots (i - (len - at)) 0 (omega arith)
      ∙ ap (λ k. get_or slots k 0) e

-- the place so many bytes after another, round the end
pub record IsAfter (len from n to : ℕ) : Type 0 where
  pub cases : ((from + n < len) × (to ≡ from + n)) ⊎ ((len ≤ from + n) × (to + len ≡ from + n))

pub is_after : (len from n : ℕ) → from < len → n < len → IsAfter len from n (place_after len from n)
is_after len from n below less =
    ⊎_elim (λ short. record { cases = inl (short, place_after-short len from n short) })
    (λ long. let e = place_after-long len from n long (omega arith) in record { cases = inr (long, omega arith) })
    (cases_lt (from + n) len)

-- ---- a message is written behind others

module _ (len to : ℕ) (slots bytes : List ℕ) (sized : length slots ≡ len) (below : to < len) (fit : length bytes ≤ len) where
  -- bytes written from a place on stand there
  pub stands_written : take (length bytes) (bytes_from to (written len to bytes slots)) ≡ bytes
  stands_written =
      let new = written len to bytes slots in
      let l = length-written len to slots bytes sized below fit in
      begins (bytes_from to new) bytes (omega (arith, length-bytes_from len to new l below))
      (λ i inside. ⊎_elim
      (λ near. from_near len to new l below i near ∙ written_near len to slots bytes sized below fit i inside near)
      (λ far. from_far len to new l below i (omega arith) far ∙ written_far len to slots bytes sized below fit i inside far)
      (cases_lt (to + i) len))

  -- what stands between another place and that one stays
  pub stands_still : (from gap : ℕ) (ys : List ℕ) → from < len → length ys ≤ gap → gap + length bytes ≤ len → IsAfter len from gap to
      → take (length ys) (bytes_from from slots) ≡ ys → take (length ys) (bytes_from from (written len to bytes slots)) ≡ ys
  stands_still from gap ys from_below short clear after stood =
      let new = written len to bytes slots in
      let l = length-written len to slots bytes sized below fit in
      begins (bytes_from from new) ys (omega (arith, length-bytes_from len from new l from_below))
      (λ i inside. at_each from gap ys from_below short clear after i inside ∙ begins_at (bytes_from from slots) ys i stood inside) where
        at_each : (from gap : ℕ) (ys : List ℕ) → from < len → length ys ≤ gap → gap + length bytes ≤ len → IsAfter len from gap to
            → (i : ℕ) → i < length ys → get_or (bytes_from from (written len to bytes slots)) i 0 ≡ get_or (bytes_from from slots) i 0
        at_each from gap ys from_below short clear after i inside =
            let new = written len to bytes slots in
            let l = length-written len to slots bytes sized below fit in
            ⊎_elim
            (λ near. from_near len from new l from_below i near
            ∙ ⊎_elim (λ (h : (from + gap < len) × (to ≡ from + gap)). kept_before len to slots bytes sized below fit (from + i) (omega (arith, h)) (omega (arith, h)))
            (λ (h : (len ≤ from + gap) × (to + len ≡ from + gap)). kept_behind len to slots bytes sized below fit (from + i) (omega (arith, h))) after.cases
            ∙ sym (from_near len from slots sized from_below i near))
            (λ far. from_far len from new l from_below i (omega arith) far
            ∙ ⊎_elim (λ (h : (from + gap < len) × (to ≡ from + gap)). absurd (omega (arith, h)))
            (λ (h : (len ≤ from + gap) × (to + len ≡ from + gap)). kept_before len to slots bytes sized below fit (from + i - len) (omega (arith, h)) (omega (arith, h))) after.cases
            ∙ sym (from_far len from slots sized from_below i (omega arith) far))
            (cases_lt (from + i) len)

abbrev pub rooms : List Message → ℕ
rooms ms = sum_by room_of ms

pub length-spell : (m : Message) → length (spell m) ≤ room_of m
length-spell m = let e = up_at_least (length m.body) in omega arith

-- messages end at the place behind all their rooms
pub ends : (slots : List ℕ) (len from to : ℕ) (ms : List Message) → from < len → rooms ms < len → HoldsFrom slots len from to ms → to ≡ place_after len from (rooms ms)
ends slots len from to [] below less h = sym h ∙ sym (place_after-zero len from below)
ends slots len from to (m ∷ ms) below less h =
    let s = sum_by-cons room_of m ms in
    let next = place_after len from (room_of m) in
    ends slots len next to ms (place_after_below len from (room_of m) (omega arith)) (omega arith) h.1
    ∙ place_after-place_after len from (room_of m) (rooms ms)
    ∙ ap (place_after len from) (sym s)

-- one more message behind them
pub accepted : (slots : List ℕ) (len from to : ℕ) (ms : List Message) (m : Message) → length slots ≡ len → from < len → to < len → rooms ms + room_of m < len
    → HoldsFrom slots len from to ms → HoldsFrom (written len to (spell m) slots) len from (place_after len to (room_of m)) (ms ++ m ∷ [])
accepted slots len from to [] m sized below to_below less h =
    let l = length-spell m in (
      subst (λ p. take (length (spell m)) (bytes_from p (written len to (spell m) slots)) ≡ spell m) (sym h) (stands_written len to slots (spell m) sized to_below (omega arith)),
      ap (λ p. place_after len p (room_of m)) h,
    )
accepted slots len from to (x ∷ xs) m sized below to_below less h =
    let s = sum_by-cons room_of x xs in
    let l = length-spell m in
    let lx = length-spell x in
    let next = place_after len from (room_of x) in
    let gap = rooms (x ∷ xs) in
    let e = ends slots len from to (x ∷ xs) below (omega arith) h in
    let after : IsAfter len from gap to = subst (IsAfter len from gap) (sym e) (is_after len from gap below (omega arith)) in (
      stands_still len to slots (spell m) sized to_below (omega arith) from gap (spell x) below (omega arith) (omega arith) after h.0,
      accepted slots len next to xs m sized (place_after_below len from (room_of x) (omega arith)) to_below (omega arith) h.1,
    )

pub rooms-push : (ms : List Message) (m : Message) → rooms (ms ++ m ∷ []) ≡ rooms ms + room_of m
rooms-push [] m = refl
rooms-push (x ∷ xs) m =
    let a = sum_by-cons room_of x (xs ++ m ∷ []) in
    let b = sum_by-cons room_of x xs in
    let c = rooms-push xs m in
    omega arith

-- the first of them are taken
pub taken : (slots : List ℕ) (len from to k : ℕ) (ms : List Message) → from < len → HoldsFrom slots len from to ms
    → HoldsFrom slots len (place_after len from (rooms (take k ms))) to (drop k ms)
taken slots len from to zero ms below h = subst (λ p. HoldsFrom slots len p to ms) (sym (place_after-zero len from below)) h
taken slots len from to (suc k) [] below h = subst (λ p. p ≡ to) (sym (place_after-zero len from below)) h
taken slots len from to (suc k) (m ∷ ms) below h =
    let next = place_after len from (room_of m) in
    let e : place_after len next (rooms (take k ms)) ≡ place_after len from (rooms (m ∷ take k ms)) =
    place_after-place_after len from (room_of m) (rooms (take k ms)) ∙ ap (place_after len from) (sym (sum_by-cons room_of m (take k ms))) in
    subst (λ p. HoldsFrom slots len p to (drop k ms)) e (taken slots len next to k ms (place_after_below len from (room_of m) (omega arith)) h.1)

pub rooms-drop : (k : ℕ) (ms : List Message) → rooms (drop k ms) ≤ rooms ms
rooms-drop k ms = let e = sum_by-take-drop room_of ms k in omega arith
