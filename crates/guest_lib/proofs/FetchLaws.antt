-- The pieces of a recv, and one outcome of a fetch.
use Rattle.std.proofs.Common.{◌≡◌, ℕ, ◌+◌, ◌-◌, ◌*◌, ◌/◌, ◌%◌, ◌<◌, ◌≤◌, min, List, [], ◌∷◌, ◌++◌, IsTrue, length, refl, ap, ◌∙◌, subst, arith, length-append, drop, slice_get, Some, true, false, sum_by, Result, Ok, Err, IfOk}
use Rattle.std.proofs.lemmas.Bool.Decides.{nat_tests}
use Rattle.std.proofs.lemmas.List.Sums.{sum_by-cons}
use Rattle.std.specs.Option.{is_some}
use Rattle.argo_base.specs.declared.message.Message.{Message}
use Rattle.argo_base.specs.declared.piece.Piece.{Piece}
use Rattle.argo_base.specs.Layout.{u32_bytes}
use Rattle.argo_base.specs.Pieces.{pieces, pages_touched}
use Rattle.argo_base.specs.Slots.{is_legal, is_place}
use Rattle.argo_base.proofs.PieceLaws.{pieces-first, length-pieces}
use Rattle.argo_model.specs.declared.action.Action.TheVariants.{Fetch}
use Rattle.argo_model.specs.declared.action.Outcome.{Outcome}
use Rattle.argo_model.specs.declared.action.Outcome.TheVariants.{Bytes}
use Rattle.guest_lib.specs.declared.received.Received.{Received}
use Rattle.argo_model.specs.Rules.Outcomes.{can_have}
use Rattle.argo_model.specs.Programs.Asks.{Next, Do, Rests, CanFollow, fetch_all, put_all}
use Rattle.argo_model.specs.Programs.Recv.{FoundMessage, FoundFault, End, slot_pieces, put_rx}
use Rattle.guest_lib.specs.Ends.{EndsFetch, EndsPut}
use Rattle.guest_lib.specs.Receiving.{ended}

-- a range inside a page is one piece
one_piece : (page off n : ℕ) → 0 < n → off + n ≤ 4096 → pieces (4096 * page + off) n ≡ record { page = page; off = off; n = n } ∷ []
one_piece page off n some inside =
    let all : min n (4096 - off) ≡ n = omega arith in
    let none : n - n ≡ 0 = omega arith in
    pieces-first page off n (omega arith) some
    ∙ ap (λ m. record { page = page; off = off; n = m } ∷ pieces (4096 * (page + 1) + 0) (n - m)) all
    ∙ ap (λ m. record { page = page; off = off; n = n } ∷ pieces (4096 * (page + 1) + 0) m) none

pub rx_piece : (page : ℕ) → pieces (page * 4096) 4 ≡ record { page = page; off = 0; n = 4 } ∷ []
rx_piece page = let at : page * 4096 ≡ 4096 * page + 0 = omega arith in ap (λ a. pieces a 4) at ∙ one_piece page 0 4 (omega arith) (omega arith)

pub tx_piece : (page : ℕ) → pieces (page * 4096 + 4) 4 ≡ record { page = page; off = 4; n = 4 } ∷ []
tx_piece page = let at : page * 4096 + 4 ≡ 4096 * page + 4 = omega arith in ap (λ a. pieces a 4) at ∙ one_piece page 4 4 (omega arith) (omega arith)

-- a header lies in one page
pub head_piece : (page len rx : ℕ) → IsTrue (is_legal len) → IsTrue (is_place len rx)
    → slot_pieces (page * 4096) len rx 16 ≡ record { page = page + (64 + rx) / 4096; off = (64 + rx) % 4096; n = 16 } ∷ []
head_piece page len rx legal place =
    let whole : len % 16 ≡ 0 = grind (arith, nat_tests) in
    let even : rx % 16 ≡ 0 = grind (arith, nat_tests) in
    let below : rx < len = grind (arith, nat_tests) in
    let all : min 16 (len - rx) ≡ 16 = omega arith in
    let none : 16 - (len - rx) ≡ 0 = omega arith in
    let at : page * 4096 + 64 + rx ≡ 4096 * (page + (64 + rx) / 4096) + (64 + rx) % 4096 = omega arith in
    ap (λ m. pieces (page * 4096 + 64 + rx) m ++ pieces (page * 4096 + 64) (16 - (len - rx))) all
    ∙ ap (λ m. pieces (page * 4096 + 64 + rx) 16 ++ pieces (page * 4096 + 64) m) none
    ∙ ap (λ a. pieces a 16 ++ []) at
    ∙ ap (λ ps. ps ++ []) (one_piece (page + (64 + rx) / 4096) ((64 + rx) % 4096) 16 (omega arith) (omega arith))

touches_within : (at n : ℕ) → pages_touched at n ≤ n / 4096 + 2
touches_within at n = grind (arith, nat_tests)

-- slot bytes have at most four pieces more than they have whole pages
pub slot_pieces-few : (ring len at n : ℕ) → length (slot_pieces ring len at n) ≤ n / 4096 + 4
slot_pieces-few ring len at n =
    let a = length-pieces (ring + 64 + at) (min n (len - at)) in
    let b = length-pieces (ring + 64) (n - (len - at)) in
    let both = length-append (pieces (ring + 64 + at) (min n (len - at))) (pieces (ring + 64) (n - (len - at))) in
    let x = touches_within (ring + 64 + at) (min n (len - at)) in
    let y = touches_within (ring + 64) (n - (len - at)) in
    omega (arith, a, b, both, x, y)

module _ (ps qs : List Piece) (p : Piece) (is : ps ≡ p ∷ qs) (got : List ℕ) (end : End) (k : List ℕ → Rests) (o : Outcome) (os : List Outcome) where
  -- bytes go to what follows the rest
  pub fetched : (bytes : List ℕ) → o ≡ Bytes bytes → fetch_all ps got (end FoundFault) k (o ∷ os) ≡ fetch_all qs (got ++ bytes) (end FoundFault) k os
  fetched bytes came = ap (λ xs. fetch_all xs got (end FoundFault) k (o ∷ os)) is ∙ ap (λ x. fetch_all (p ∷ qs) got (end FoundFault) k (x ∷ os)) came

  -- any other outcome ends it
  pub fetch_ended : (received : Received)
      → EndsFetch o received
      → fetch_all ps got (end FoundFault) k (o ∷ os) ≡ ended end received
  fetch_ended received ends =
      ap (λ xs. fetch_all xs got (end FoundFault) k (o ∷ os)) is ∙ ends end (λ bs os. fetch_all qs (got ++ bs) (end FoundFault) k os) os

-- the first of some pieces
pub first_is : (ps : List Piece) (p : Piece) → Some p ≡ slice_get ps 0 → ps ≡ p ∷ drop 1 ps
first_is [] p is = absurd (let clash : ⊥ = cc in clash)
first_is (q ∷ qs) p is = let same : q ≡ p = cc in ap (λ x. x ∷ qs) same

pub some_first : (ps : List Piece) → 0 < length ps → (p : Piece) × (Some p ≡ slice_get ps 0)
some_first [] some = absurd (omega arith)
some_first (p ∷ ps) some = (p, refl)

pub some_left : (ps : List Piece) → is_some (slice_get ps 0) ≡ true → 0 < length ps
some_left [] some = absurd (let clash : ⊥ = cc in clash)
some_left (p ∷ ps) some = omega arith

pub none_left : (ps : List Piece) → is_some (slice_get ps 0) ≡ false → ps ≡ []
none_left [] none = refl
none_left (p ∷ ps) none = absurd (let clash : ⊥ = cc in clash)

pub none_sum : (ps : List Piece) → ps ≡ [] → sum_by (λ (q : Piece). q.n) ps ≡ 0
none_sum ps none = ap (λ xs. sum_by (λ (q : Piece). q.n) xs) none

-- a fetch gives as many bytes as were asked for
pub given : (page off n : ℕ) (o : Outcome) (bytes : List ℕ) → o ≡ Bytes bytes → IsTrue (can_have (Fetch page off n) o) → length bytes ≡ n
given page off n o bytes came can =
    let P : Outcome → Type 0 = λ x. IsTrue (can_have (Fetch page off n) x) in
    let asked : IsTrue (can_have (Fetch page off n) (Bytes bytes)) = subst P came can in
    grind (arith, nat_tests)

-- the bytes of some pieces are those of the first and of the others
pub first_sum : (ps : List Piece) (p : Piece) → Some p ≡ slice_get ps 0 → sum_by (λ (q : Piece). q.n) ps ≡ p.n + sum_by (λ (q : Piece). q.n) (drop 1 ps)
first_sum ps p is = ap (λ xs. sum_by (λ (q : Piece). q.n) xs) (first_is ps p is) ∙ sum_by-cons (λ (q : Piece). q.n) p (drop 1 ps)

-- what is fetched next
pub fetch_next : (ps : List Piece) (p : Piece) (got : List ℕ) (failed : Next) (k : List ℕ → Rests) → Some p ≡ slice_get ps 0
    → fetch_all ps got failed k [] ≡ Do (Fetch p.page p.off p.n)
fetch_next ps p got failed k is = ap (λ xs. fetch_all xs got failed k []) (first_is ps p is)

pub can_fetch : (ps : List Piece) (p : Piece) (got : List ℕ) (failed : Next) (k : List ℕ → Rests) (o : Outcome) → Some p ≡ slice_get ps 0
    → CanFollow (fetch_all ps got failed k []) o → IsTrue (can_have (Fetch p.page p.off p.n) o)
can_fetch ps p got failed k o is can = let P : Next → Type 0 = λ next. CanFollow next o in subst P (fetch_next ps p got failed k is) can

-- bytes that the fetch of some pieces can have are those of the first
pub heard_size : (ps : List Piece) (p : Piece) (got : List ℕ) (failed : Next) (k : List ℕ → Rests) (bytes : List ℕ) → Some p ≡ slice_get ps 0
    → CanFollow (fetch_all ps got failed k []) (Bytes bytes) → length bytes ≡ p.n
heard_size ps p got failed k bytes is can =
    given p.page p.off p.n (Bytes bytes) bytes refl (can_fetch ps p got failed k (Bytes bytes) is can)

-- the put of the rx word ends it
pub put_ended : (page word : ℕ) (m : Message) (o : Outcome) (received : Received)
    → EndsPut m o received
    → (end : End) (os : List Outcome) → put_rx end (page * 4096) word (length m.body) m (o ∷ os) ≡ ended end received
put_ended page word m o received ends end os =
    ap (λ ps. put_all ps (u32_bytes word) (end FoundFault) (λ os. end (FoundMessage (length m.body) m)) (o ∷ os)) (rx_piece page) ∙ ends end os

-- what holds of an answer, holds of it in another form
pub in_ok : {T E : Type 0} (r : Result T E) (P Q : T → Type 0) → ((x : T) → P x → Q x) → IfOk r P → IfOk r Q
in_ok (Ok x) P Q f h = f x h
in_ok (Err e) P Q f h = h
