-- The buffers of a send, and the verdict on them.
use Rattle.std.specs.Prelude.{ℕ, ◌+◌, ◌*◌, Bool, not, ◌||◌, ◌==◌, nat_lt, if◌then◌else◌, List, [], ◌∷◌, map, flat_map, Result, Ok, Err}
use Rattle.std.specs.List.{range_with_len}
use Rattle.argo_base.specs.declared.errno.Errno.{Errno}
use Rattle.argo_base.specs.declared.errno.Errno.TheVariants.{Inval, MsgSize}
use Rattle.argo_base.specs.declared.piece.Piece.{Piece}
pub use Rattle.argo_base.specs.Limits.{longest_body}
use Rattle.argo_base.specs.Layout.{u32_at, u64_at}
use Rattle.argo_base.specs.Pieces.{pieces}

-- xen_argo_iov: a buffer of `len` bytes at the guest address `hnd`
pub record Iov : Type 0 where
  pub hnd : ℕ
  pub len : ℕ
  pub pad : ℕ

-- the iov at a place of a list of them, 16 bytes each
abbrev pub iov_at : List ℕ → ℕ → Iov
iov_at bytes i = record { hnd = u64_at bytes (16 * i); len = u32_at bytes (16 * i + 8); pad = u32_at bytes (16 * i + 12) }

abbrev pub iovs_at : List ℕ → ℕ → List Iov
iovs_at bytes count = map (iov_at bytes) (range_with_len 0 count)

-- an iov whose pad is not 0, or which alone is longer than any body
abbrev pub is_bad_iov : Iov → Bool
is_bad_iov v = not (v.pad == 0) || nat_lt longest_body v.len

-- the verdict on iovs that follow others of so many bytes: each in its turn is bad, or makes too long a body, or is passed
abbrev pub judged : ℕ → List Iov → Result ℕ Errno
judged n [] = Ok n
judged n (v ∷ vs) =
    if is_bad_iov v then Err Inval
    else if nat_lt longest_body (n + v.len) then Err MsgSize
    else judged (n + v.len) vs

-- the size of the body, or the refusal of the first iov that is not passed
abbrev pub verdict_of : List Iov → Result ℕ Errno
verdict_of iovs = judged 0 iovs

-- the pieces of all buffers, in their order
abbrev pub gathered_pieces : List Iov → List Piece
gathered_pieces iovs = flat_map (λ v. pieces v.hnd v.len) iovs
