-- A recv that is not at its end has an action to come.
use Rattle.std.proofs.Common.{◌≡◌, ℕ, ◌+◌, ◌-◌, ◌*◌, ◌/◌, ◌%◌, ◌<◌, false, List, [], ◌∷◌, length, take, IsTrue, refl, ap, arith}
use Rattle.argo_base.specs.declared.piece.Piece.{Piece}
use Rattle.argo_base.specs.Layout.{u32_at, u32_bytes}
use Rattle.argo_base.specs.Pieces.{pieces}
use Rattle.argo_base.specs.Slots.{is_legal}
use Rattle.argo_model.specs.declared.action.Action.{Action}
use Rattle.argo_model.specs.declared.action.Action.TheVariants.{Fetch, Put}
use Rattle.argo_model.specs.Programs.Asks.{Next, Do, Rests, fetch_all, put_all}
use Rattle.argo_model.specs.Programs.Recv.{FoundMessage, FoundFault, slot_pieces, recv_tx, recv_words, recv_head, put_rx}
use Rattle.guest_lib.specs.declared.own_ring.OwnRing.{OwnRing}
use Rattle.guest_lib.specs.declared.stage.Stage.{Stage}
use Rattle.guest_lib.specs.declared.stage.Stage.TheVariants.{Rx, Tx, Head, Body, Word, Done}
use Rattle.guest_lib.specs.Receiving.{is_transfer, step_left, message_with}
use Rattle.guest_lib.specs.Stage.{step_of, IsStage, IsAction}
use Rattle.guest_lib.proofs.FetchLaws.{rx_piece, tx_piece, head_piece, some_first, first_is}

-- the fetch of the first of some pieces
fetches : (ps qs : List Piece) (p : Piece) (got : List ℕ) (failed : Next) (k : List ℕ → Rests) → ps ≡ p ∷ qs
    → fetch_all ps got failed k [] ≡ Do (Fetch p.page p.off p.n)
fetches ps qs p got failed k is = ap (λ xs. fetch_all xs got failed k []) is

-- the action of a stage, and that it moves bytes
pub stage_does : (r : OwnRing) (s : Stage) → IsTrue (is_legal r.len) → IsStage r.len false s → 0 < step_left (step_of s)
    → (a : Action) × IsTrue (is_transfer a) × IsAction r (step_of s) a
stage_does r Rx legal ready some = (
  Fetch r.page 0 4,
  refl,
  λ end. fetches (pieces (r.page * 4096) 4) [] (record { page = r.page; off = 0; n = 4 }) [] (end FoundFault)
      (λ rx os. recv_tx end (r.page * 4096) r.len (u32_at rx 0) os) (rx_piece r.page),
)
stage_does r (Tx rx) legal ready some = (
  Fetch r.page 4 4,
  refl,
  λ end. fetches (pieces (r.page * 4096 + 4) 4) [] (record { page = r.page; off = 4; n = 4 }) [] (end FoundFault)
      (λ tx os. recv_words end (r.page * 4096) r.len rx (u32_at tx 0) os) (tx_piece r.page),
)
stage_does r (Head rx tx) legal ready some = (
  Fetch (r.page + (64 + rx) / 4096) ((64 + rx) % 4096) 16,
  refl,
  λ end. fetches (slot_pieces (r.page * 4096) r.len rx 16) [] (record { page = r.page + (64 + rx) / 4096; off = (64 + rx) % 4096; n = 16 }) [] (end FoundFault)
      (recv_head end (r.page * 4096) r.len rx tx) (head_piece r.page r.len rx legal ready.0),
)
stage_does r (Body b) legal ready some =
    let first = some_first b.slots ready.some in
    let p = first.0 in (
      Fetch p.page p.off p.n,
      refl,
      λ end. fetches b.slots _ p b.got.items (end FoundFault)
          (λ body os. put_rx end (r.page * 4096) b.word (b.head.len - 16) (message_with b.head body) os) (first_is b.slots p first.1),
    )
stage_does r (Word word m) legal ready some = (
  Put r.page 0 (take 4 (u32_bytes word)),
  refl,
  λ end. ap (λ ps. put_all ps (u32_bytes word) (end FoundFault) (λ os. end (FoundMessage (length m.body) m)) []) (rx_piece r.page),
)
stage_does r Done legal ready some = absurd (omega arith)
