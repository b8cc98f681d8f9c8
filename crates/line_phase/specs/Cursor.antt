-- What is left of a range.
use Rattle.std.specs.Prelude.{◌+◌, ◌*◌, ◌^◌, ◌<◌, ◌≤◌, List}
use Rattle.argo_base.specs.declared.piece.Piece.{Piece}
use Rattle.argo_base.specs.Pieces.{pieces}
use Rattle.line_phase.specs.declared.cursor.Cursor.{Cursor}

-- the pieces of what is left of a range
abbrev pub pieces_left : Cursor → List Piece
pieces_left c = pieces (4096 * c.page + c.off) c.left

-- the offset is one of a page, and the page's number leaves room for those that follow it
pub record IsSound (c : Cursor) : Type 0 where
  pub inside : c.off < 4096
  pub room : c.page + c.left ≤ 2 ^ 60
