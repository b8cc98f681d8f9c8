-- A line more, in what a reader has and counts.
use Rattle.std.proofs.Common.{◌≡◌, ◌+◌, ◌≤◌, ◌<◌, ◌⊎◌, true, false, leb, List, [], ◌∷◌, ◌++◌, Option, Some, None, Ok, Err, IsSome, refl, sym, ap, subst, ◌∙◌, inl, inr, arith}
use Rattle.std.proofs.lemmas.Bool.{and_right, le-leb, lt-leb}
use Rattle.argo_model.specs.declared.scripts.Actor.{Actor}
use Rattle.argo_model.specs.declared.line.Line.{Line}
use Rattle.argo_model.specs.Runs.Script.{Section, Script, turns_of}
use Rattle.script_text.specs.declared.entry.Entry.TheVariants as entries
use Rattle.script_text.specs.declared.kind.ScriptKind.TheVariants.{Limit}
use Rattle.script_text.specs.declared.reader.Reader.TheInside.{Inside}
use Rattle.script_text.specs.Entries.{unless}
use Rattle.script_text.specs.Reading.{last_actor, add_line, line_count, turn_count, is_within, with_entry, added}
use Rattle.script_text.specs.Reader.{sections_of, script_in, IsCounted}
use Rattle.script_text.proofs.LastSection.{last_actor_is, add_line_is, line_count_more, turn_count_more}

pub at_last : (r : Inside) (s : Script) → script_in r ≡ s → IsCounted r → last_actor s.sections ≡ r.actor
at_last r s e counted = ap (λ (t : Script). last_actor t.sections) (sym e) ∙ last_actor_is r.parts r.actor r.lines counted.first

add_line_at : (l : Line) (parts : List Section) (actor : Option Actor) (lines : List Line) → IsSome actor → add_line l (sections_of parts actor lines) ≡ sections_of parts actor (lines ++ l ∷ [])
add_line_at l parts None lines h = absurd cc
add_line_at l parts (Some a) lines h = add_line_is l parts a lines

line_count_at : (l : Line) (parts : List Section) (actor : Option Actor) (lines : List Line) → IsSome actor → line_count (sections_of parts actor (lines ++ l ∷ [])) ≡ line_count (sections_of parts actor lines) + 1
line_count_at l parts None lines h = absurd cc
line_count_at l parts (Some a) lines h = line_count_more l parts a lines

turn_count_at : (l : Line) (parts : List Section) (actor : Option Actor) (lines : List Line) → IsSome actor → turn_count (sections_of parts actor (lines ++ l ∷ [])) ≡ turn_count (sections_of parts actor lines) + turns_of l
turn_count_at l parts None lines h = absurd cc
turn_count_at l parts (Some a) lines h = turn_count_more l parts a lines

-- what the script is with the line
abbrev pub with_last : Inside → Line → Script
with_last r l = record { version = r.version; domains = r.domains; sections = sections_of r.parts r.actor (r.lines ++ l ∷ []) }

module _ (r : Inside) (s : Script) (is : script_in r ≡ s) (counted : IsCounted r) (l : Line) (here : IsSome (last_actor s.sections)) where
  has_last : IsSome r.actor
  has_last = subst (λ (a : Option Actor). IsSome a) (at_last r s is counted) here

  with_it : with_entry s (entries.Line l) ≡ with_last r l
  with_it =
      ap (λ (t : Script). with_entry t (entries.Line l)) (sym is)
      ∙ ap (λ (xs : List Section). let t : Script = record { version = r.version; domains = r.domains; sections = xs } in t) (add_line_at l r.parts r.actor r.lines has_last)

  pub adds : r.line_count < 8192 → r.turn_count + turns_of l ≤ 1048576 → added s (entries.Line l) ≡ Ok (with_last r l)
  adds lines turns =
      let few : leb (line_count (with_last r l).sections) 8192 ≡ true = le-leb _ _ (omega (arith, line_count_at l r.parts r.actor r.lines has_last, counted.lines)) in
      let short : leb (turn_count (with_last r l).sections) 1048576 ≡ true = le-leb _ _ (omega (arith, turn_count_at l r.parts r.actor r.lines has_last, counted.turns)) in
      ap (λ (t : Script). unless (is_within (entries.Line l) t) Limit (Ok t)) with_it ∙ rw (few, short) refl

  pub is_full : (8192 ≤ r.line_count) ⊎ (1048576 < r.turn_count + turns_of l) → added s (entries.Line l) ≡ Err Limit
  is_full (inl lines) =
      let many : leb (line_count (with_last r l).sections) 8192 ≡ false = lt-leb _ _ (omega (arith, line_count_at l r.parts r.actor r.lines has_last, counted.lines)) in
      ap (λ (t : Script). unless (is_within (entries.Line l) t) Limit (Ok t)) with_it ∙ rw many refl
  is_full (inr turns) =
      let long : leb (turn_count (with_last r l).sections) 1048576 ≡ false = lt-leb _ _ (omega (arith, turn_count_at l r.parts r.actor r.lines has_last, counted.turns)) in
      ap (λ (t : Script). unless (is_within (entries.Line l) t) Limit (Ok t)) with_it ∙ rw long (rw (and_right (leb (line_count (with_last r l).sections) 8192) false refl) refl)
