-- The body of a message, piece by piece.
use Rattle.std.proofs.Common.{◌≡◌, ℕ, ◌+◌, ◌-◌, ◌*◌, ◌^◌, ◌<◌, ◌++◌, true, List, [], ◌∷◌, length, drop, sum_by, refl, sym, ap, ◌∙◌, arith, length-append, length-drop}
use Rattle.argo_base.specs.declared.piece.Piece.{Piece}
use Rattle.argo_model.specs.declared.action.Outcome.TheVariants.{Bytes}
use Rattle.argo_model.specs.Programs.Asks.{fetch_all}
use Rattle.argo_model.specs.Programs.Recv.{FoundFault, put_rx}
use Rattle.guest_lib.specs.declared.own_ring.OwnRing.{OwnRing}
use Rattle.guest_lib.specs.declared.stage.BodyRead.{BodyRead}
use Rattle.guest_lib.specs.declared.stage.Stage.TheVariants.{Body}
use Rattle.guest_lib.specs.declared.stage.Onward.TheVariants.{To}
use Rattle.guest_lib.specs.Receiving.{ReadBody, ahead_at, message_with}
use Rattle.guest_lib.specs.Stage.{GoAlike, HasBodySize, IsBody, CanHearPiece, Follows, read_body, step_of, word_stage}
use Rattle.guest_lib.proofs.FetchLaws.{first_is, some_first, first_sum, none_sum, given, fetched}

-- where no piece is left, the rx word is put
pub last_alike : (b : BodyRead) → HasBodySize b → b.slots ≡ [] → GoAlike (step_of (word_stage b)) (read_body b)
last_alike b size none = λ end page len os.
    let whole : length b.got.items ≡ b.head.len - 16 = omega (arith, size, none_sum b.slots none) in
    ap (λ n. put_rx end (page * 4096) b.word n (message_with b.head b.got.items) os) whole
    ∙ sym (ap (λ ps. fetch_all ps b.got.items (end FoundFault) (λ body os. put_rx end (page * 4096) b.word (b.head.len - 16) (message_with b.head body) os) os) none)

-- the bytes are those of the first piece
pub heard_sum : (b : BodyRead) (bytes : List ℕ) → IsBody true b → CanHearPiece b (Bytes bytes)
    → length bytes + sum_by (λ (p : Piece). p.n) (drop 1 b.slots) ≡ sum_by (λ (p : Piece). p.n) b.slots
heard_sum b bytes ready can =
    let first = some_first b.slots ready.some in
    let p = first.0 in
    let size = given p.page p.off p.n (Bytes bytes) bytes refl (can p (sym first.1)) in
    let sum = first_sum b.slots p first.1 in
    omega (arith, size, sum)

module _ (old new : BodyRead) (bytes : List ℕ) (ready : IsBody true old) (can : CanHearPiece old (Bytes bytes))
    (slots : new.slots ≡ drop 1 old.slots) (got : new.got.items ≡ old.got.items ++ bytes) (head : new.head ≡ old.head) (word : new.word ≡ old.word) where
  heard_size : HasBodySize new
  heard_size =
      let long = ap length got ∙ length-append old.got.items bytes in
      let sum = ap (λ ps. sum_by (λ (p : Piece). p.n) ps) slots in
      let least = ap (λ h. h.len - 16) head in
      omega (arith, long, sum, least, heard_sum old bytes ready can, ready.size)

  heard_rest : (end : _) (page len : ℕ) (os : _) → ahead_at end page len (read_body old) (Bytes bytes ∷ os) ≡ ahead_at end page len (read_body new) os
  heard_rest end page len os =
      let first = some_first old.slots ready.some in
      fetched old.slots (drop 1 old.slots) first.0 (first_is old.slots first.0 first.1) old.got.items end
      (λ body os. put_rx end (page * 4096) old.word (old.head.len - 16) (message_with old.head body) os) (Bytes bytes) os bytes refl
      ∙ ap (λ ps. ahead_at end page len (ReadBody ps (old.got.items ++ bytes) old.head old.word) os) (sym slots)
      ∙ ap (λ got. ahead_at end page len (ReadBody new.slots got old.head old.word) os) (sym got)
      ∙ ap (λ head. ahead_at end page len (ReadBody new.slots new.got.items head old.word) os) (sym head)
      ∙ ap (λ word. ahead_at end page len (ReadBody new.slots new.got.items new.head word) os) (sym word)

  fewer : length new.slots < length old.slots
  fewer = let less = ap length slots ∙ length-drop 1 old.slots in omega (arith, less, ready.some)

  small : new.head.len < 2 ^ 32
  small = let same = ap (λ h. h.len) head in omega (arith, same, ready.short)

  -- others are to come
  pub heard_more : 0 < length new.slots → (ring : OwnRing) → Follows ring (read_body old) (Bytes bytes) (To (Body new))
  heard_more some ring = record {
    rest = λ end os. heard_rest end ring.page ring.len os;
    ready = (record { some = some; size = heard_size; short = small; room = λ no. absurd (let clash : ⊥ = cc in clash) }, omega arith);
    nearer = omega (arith, fewer);
  }

  -- the body is whole
  pub heard_last : new.slots ≡ [] → (ring : OwnRing) → Follows ring (read_body old) (Bytes bytes) (To (word_stage new))
  heard_last none ring = record {
    rest = λ end os. heard_rest end ring.page ring.len os ∙ sym (last_alike new heard_size none end ring.page ring.len os);
    ready = (omega (arith, heard_size, small, none_sum new.slots none), omega arith);
    nearer = omega (arith, ready.some);
  }
