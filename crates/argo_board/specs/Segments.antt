-- Entries in segments, the newest segment first.
use Rattle.std.specs.Prelude.{List, [], ◌∷◌, ◌++◌}
use Rattle.std.specs.Global.{Vec}
use Rattle.argo_board.specs.declared.entry.Entry.{Entry}

-- all entries from the first to the last
abbrev pub entries_in : List (Vec Entry) → List Entry
entries_in [] = []
entries_in (v ∷ vs) = entries_in vs ++ v.items
