-- Worked examples of ranges that are cut at page ends, and of the verdict on a send's buffers.
use Rattle.std.specs.Prelude.{◌≡◌, ℕ, [], ◌∷◌, ◌++◌, length, Ok, Err}
use Rattle.argo_base.specs.declared.errno.Errno.TheVariants.{Inval, MsgSize}
use Rattle.argo_base.specs.declared.piece.Piece.{Piece}
use Rattle.argo_base.specs.Layout.{iov_bytes}
use Rattle.argo_base.specs.Pieces.{pieces}
use Rattle.argo_base.specs.Iovs.{Iov, iovs_at, verdict_of, gathered_pieces}

-- n bytes of a page from an offset on
abbrev pub piece : (page off n : ℕ) → Piece
piece page off n = record { page = page; off = off; n = n }

-- the pieces of a range: none of an empty one, wherever it is, and else one for each page, also past 64-bit addresses
pub record PiecesOfRanges : Type 0 where
  pub empty : pieces 0xffffffffffffffff 0 ≡ []
  pub inside : pieces 0x1040 16 ≡ piece 1 0x40 16 ∷ []
  pub to_page_end : pieces 0xff0 16 ≡ piece 0 0xff0 16 ∷ []
  pub over_page_end : pieces 0xffc 8 ≡ piece 0 0xffc 4 ∷ piece 1 0 4 ∷ []
  pub three_pages : pieces 0xfff 4098 ≡ piece 0 0xfff 1 ∷ piece 1 0 4096 ∷ piece 2 0 1 ∷ []
  pub past_64_bits : pieces 0xffffffffffffffff 2 ≡ piece 0xfffffffffffff 0xfff 1 ∷ piece 0x10000000000000 0 1 ∷ []
  pub largest_body : length (pieces 0 0xFFFFE0) ≡ 4096

-- an iov that begins at 0x100
abbrev pub iov : (len pad : ℕ) → Iov
iov len pad = record { hnd = 0x100; len = len; pad = pad }

-- the verdict on a list of iovs: the sum of their lengths, or the refusal of the first that is not passed
pub record Verdicts : Type 0 where
  pub none : verdict_of [] ≡ Ok 0
  pub empty : verdict_of (record { hnd = 0xffffffffffffffff; len = 0; pad = 0 } ∷ []) ≡ Ok 0
  pub two : verdict_of (iov 16 0 ∷ iov 20 0 ∷ []) ≡ Ok 36
  pub pad : verdict_of (iov 16 1 ∷ []) ≡ Err Inval
  pub largest : verdict_of (iov 0xFFFFE0 0 ∷ []) ≡ Ok 0xFFFFE0
  pub too_long : verdict_of (iov 0xFFFFE1 0 ∷ []) ≡ Err Inval
  pub too_long_in_all : verdict_of (iov 0xFFFFE0 0 ∷ iov 1 0 ∷ []) ≡ Err MsgSize
  pub sum_before_pad : verdict_of (iov 0xFFFFE0 0 ∷ iov 1 0 ∷ iov 0 1 ∷ []) ≡ Err MsgSize
  pub pad_before_sum : verdict_of (iov 0xFFFFE0 0 ∷ iov 1 1 ∷ []) ≡ Err Inval

-- iovs as they stand in guest memory, 16 bytes each, and the pieces of all of them in their order
pub record GatheredIovs : Type 0 where
  pub read : iovs_at (iov_bytes 0x100 16 0 ++ iov_bytes 0xffc 8 1) 2 ≡ iov 16 0 ∷ record { hnd = 0xffc; len = 8; pad = 1 } ∷ []
  pub gathered : gathered_pieces (iov 16 0 ∷ iov 0 0 ∷ record { hnd = 0xffc; len = 8; pad = 0 } ∷ []) ≡ piece 0 0x100 16 ∷ piece 0 0xffc 4 ∷ piece 1 0 4 ∷ []
