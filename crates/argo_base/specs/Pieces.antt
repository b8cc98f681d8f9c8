-- A range of guest memory, cut at the ends of its pages.
use Rattle.std.specs.Prelude.{ℕ, ◌+◌, ◌-◌, ◌*◌, ◌/◌, ◌%◌, min, max, ◌==◌, if◌then◌else◌, List, map}
use Rattle.std.specs.List.{range_with_len}
use Rattle.argo_base.specs.Limits.{page_bytes}
use Rattle.argo_base.specs.declared.piece.Piece.{Piece}

-- how many pages the range of n bytes from an address touches
abbrev pub pages_touched : ℕ → ℕ → ℕ
pages_touched at n = if n == 0 then 0 else (at % page_bytes + n + 4095) / page_bytes

-- the part of the range that lies in a page
abbrev pub piece_in : ℕ → ℕ → ℕ → Piece
piece_in at n page =
    record {
      page = page;
      off = max at (page_bytes * page) - page_bytes * page;
      n = min (at + n) (page_bytes * page + page_bytes) - max at (page_bytes * page);
    }

-- a piece for each page that the range touches, in rising order
abbrev pub pieces : ℕ → ℕ → List Piece
pieces at n = map (piece_in at n) (range_with_len (at / page_bytes) (pages_touched at n))
