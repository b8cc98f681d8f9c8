-- The words of a line, one after another.
use Rattle.std.proofs.Common.{◌≡◌, ℕ, List, [], ◌∷◌, ◌++◌, map, sym, ap, append-nil, append_assoc}
use Rattle.std.specs.Prelude.{codes}
use Rattle.std.specs.List.{flat_map, join_with_byte}
use Rattle.argo_model.specs.declared.closing.Run.{Run}
use Rattle.argo_model.specs.Runs.Report.{run_word, schedule_line}

-- after the first word each word follows a space
pub join_with_byte-map : {X : Type 0} (f : X → List ℕ) (w : List ℕ) (xs : List X) → join_with_byte 32 (w ∷ map f xs) ≡ w ++ flat_map (λ x. 32 ∷ f x) xs
join_with_byte-map f w [] = sym (append-nil w)
join_with_byte-map f w (x ∷ xs) = ap (λ t. w ++ (32 ∷ t)) (join_with_byte-map f (f x) xs)

-- the schedule as it is built: its first word, the others, and the line feed
pub schedule_line_lem : (old : List ℕ) (rs : List Run) → ((old ++ codes "schedule") ++ flat_map (λ r. 32 ∷ run_word r) rs) ++ 10 ∷ [] ≡ old ++ schedule_line rs
schedule_line_lem old rs = rw (join_with_byte-map run_word (codes "schedule") rs) (simp append_assoc)
