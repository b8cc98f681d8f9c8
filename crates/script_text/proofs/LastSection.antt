-- The last section, to which lines go.
use Rattle.std.proofs.Common.{◌≡◌, ◌+◌, List, [], ◌∷◌, ◌++◌, length, Option, Some, None, sum_by, refl, ap, arith}
use Rattle.std.proofs.lemmas.List.{length_push}
use Rattle.std.proofs.lemmas.List.Sums.{sum_by_push}
use Rattle.argo_model.specs.declared.scripts.Actor.{Actor}
use Rattle.argo_model.specs.declared.line.Line.{Line}
use Rattle.argo_model.specs.Runs.Script.{Section, turns_of}
use Rattle.script_text.specs.Reading.{last_actor, add_line, line_count, turn_count}
use Rattle.script_text.specs.Reader.{sections_of}

last_actor_push : (xs : List Section) (x : Section) → last_actor (xs ++ x ∷ []) ≡ Some x.actor
last_actor_push [] x = refl
last_actor_push (y ∷ []) x = refl
last_actor_push (y ∷ z ∷ zs) x = last_actor_push (z ∷ zs) x

-- who works through the last section
pub last_actor_is : (parts : List Section) (actor : Option Actor) (lines : List Line) → (actor ≡ None → parts ≡ []) → last_actor (sections_of parts actor lines) ≡ actor
last_actor_is parts None lines first = ap last_actor (first refl)
last_actor_is parts (Some a) lines first = last_actor_push parts (record { actor = a; lines = lines })

add_line_push : (l : Line) (xs : List Section) (x : Section) → add_line l (xs ++ x ∷ []) ≡ xs ++ record { actor = x.actor; lines = x.lines ++ l ∷ [] } ∷ []
add_line_push l [] x = refl
add_line_push l (y ∷ []) x = refl
add_line_push l (y ∷ z ∷ zs) x = ap (λ (r : List Section). y ∷ r) (add_line_push l (z ∷ zs) x)

-- a line more in the last section
pub add_line_is : (l : Line) (parts : List Section) (a : Actor) (lines : List Line) → add_line l (sections_of parts (Some a) lines) ≡ sections_of parts (Some a) (lines ++ l ∷ [])
add_line_is l parts a lines = add_line_push l parts (record { actor = a; lines = lines })

pub line_count_more : (l : Line) (parts : List Section) (a : Actor) (lines : List Line) → line_count (sections_of parts (Some a) (lines ++ l ∷ [])) ≡ line_count (sections_of parts (Some a) lines) + 1
line_count_more l parts a lines =
    let count = λ (x : Section). length x.lines in
    omega (arith, sum_by_push count parts (record { actor = a; lines = lines }), sum_by_push count parts (record { actor = a; lines = lines ++ l ∷ [] }), length_push lines l)

pub turn_count_more : (l : Line) (parts : List Section) (a : Actor) (lines : List Line) → turn_count (sections_of parts (Some a) (lines ++ l ∷ [])) ≡ turn_count (sections_of parts (Some a) lines) + turns_of l
turn_count_more l parts a lines =
    let count = λ (x : Section). sum_by turns_of x.lines in
    omega (arith, sum_by_push count parts (record { actor = a; lines = lines }), sum_by_push count parts (record { actor = a; lines = lines ++ l ∷ [] }), sum_by_push turns_of lines l)
