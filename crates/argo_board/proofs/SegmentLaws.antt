-- Segments that are gathered, the oldest first.
use Rattle.std.proofs.Common.{◌≡◌, List, [], ◌∷◌, ◌++◌, refl, sym, append_assoc}
use Rattle.std.proofs.lemmas.List.{append-nil}
use Rattle.std.specs.Global.{Vec}
use Rattle.argo_board.specs.declared.entry.Entry.{Entry}
use Rattle.argo_board.specs.Segments.{entries_in}

-- the oldest segment stands last
pub oldest-first : (vs : List (Vec Entry)) (v : Vec Entry) → entries_in (vs ++ v ∷ []) ≡ v.items ++ entries_in vs
oldest-first [] v = sym (append-nil v.items)
oldest-first (w ∷ ws) v = rw (oldest-first ws v) (append_assoc v.items (entries_in ws) w.items)

-- one more segment is gathered
pub gather-more : (all newest : List Entry) (vs : List (Vec Entry)) (v : Vec Entry) → (all ++ v.items) ++ (entries_in vs ++ newest) ≡ all ++ (entries_in (vs ++ v ∷ []) ++ newest)
gather-more all newest vs v =
    rw (oldest-first vs v, append_assoc all v.items (entries_in vs ++ newest), append_assoc v.items (entries_in vs) newest) refl
