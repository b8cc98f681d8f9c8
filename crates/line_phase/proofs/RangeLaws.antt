-- Laws of ranges that are put or fetched piece by piece.
use Rattle.std.proofs.Common.{◌≡◌, ◌==◌, true, false, ◌≢◌, ℕ, ◌+◌, ◌-◌, ◌*◌, ◌/◌, ◌<◌, ◌≤◌, min, List, [], ◌∷◌, ◌++◌, IsTrue, length, refl, ap, ◌∙◌, subst, arith}
use Rattle.std.proofs.lemmas.Bool.Decides.{nat_tests}
use Rattle.argo_base.specs.declared.piece.Piece.{Piece}
use Rattle.argo_base.proofs.PieceLaws.{pieces-first, length-pieces, short_touches}
use Rattle.line_phase.specs.declared.cursor.Cursor.{Cursor}
use Rattle.argo_model.specs.declared.action.Action.{Action}
use Rattle.argo_model.specs.declared.action.Action.TheVariants.{Fetch}
use Rattle.argo_model.specs.declared.action.Outcome.{Outcome}
use Rattle.argo_model.specs.declared.action.Outcome.TheVariants.{Done, Bytes, Fault, Refused, Accepted, Swept, NoMore, Answer, Flag, Gone}
use Rattle.argo_base.specs.Pieces.{pieces, pages_touched}
use Rattle.argo_model.specs.Runs.Script.{is_short}
use Rattle.line_phase.specs.Cursor.{pieces_left, IsSound}
use Rattle.argo_model.specs.Rules.Outcomes.{can_have}
use Rattle.line_phase.specs.Ranges.{GivesFirst}
use Rattle.argo_model.specs.declared.reply.Reply.TheVariants.{Gone as gone}
use Rattle.argo_model.specs.Programs.Asks.{Next, Do, Say, Rests, CanFollow, collect, put_all}
use Rattle.line_phase.specs.Phase.{takes_none}

-- an outcome other than `Done` and `Gone` ends a put
put_refused : (o : Outcome) (p : Piece) (ps : List Piece) (bytes : List ℕ) (failed : Next) (k : Rests) (os : List Outcome) → o ≢ Done → o ≢ Gone → put_all (p ∷ ps) bytes failed k (o ∷ os) ≡ failed
put_refused Done p ps bytes failed k os not_done not_gone = absurd (not_done refl)
put_refused (Bytes bs) p ps bytes failed k os not_done not_gone = refl
put_refused Fault p ps bytes failed k os not_done not_gone = refl
put_refused (Refused e) p ps bytes failed k os not_done not_gone = refl
put_refused (Accepted n) p ps bytes failed k os not_done not_gone = refl
put_refused (Swept n) p ps bytes failed k os not_done not_gone = refl
put_refused NoMore p ps bytes failed k os not_done not_gone = refl
put_refused (Answer a) p ps bytes failed k os not_done not_gone = refl
put_refused (Flag b) p ps bytes failed k os not_done not_gone = refl
put_refused Gone p ps bytes failed k os not_done not_gone = absurd (not_gone refl)

-- and so it does at what is left of a range
pub put_all-refused : (c : Cursor) (o : Outcome) (bytes : List ℕ) (failed : Next) (k : Rests) (os : List Outcome) → 0 < c.left → IsSound c → o ≢ Done → o ≢ Gone → put_all (pieces_left c) bytes failed k (o ∷ os) ≡ failed
put_all-refused c o bytes failed k os some sound not_done not_gone =
    ap (λ ps. put_all ps bytes failed k (o ∷ os)) (pieces-first c.page c.off c.left sound.inside some)
    ∙ put_refused o (record { page = c.page; off = c.off; n = min c.left (4096 - c.off) }) (pieces (4096 * (c.page + 1) + 0) (c.left - min c.left (4096 - c.off))) bytes failed k os not_done not_gone

-- an outcome other than bytes and `Gone` ends a fetch
fetch_refused : (o : Outcome) (p : Piece) (ps : List Piece) (got : List ℕ) (failed : Rests) (k : List ℕ → Rests) (os : List Outcome) → ((bs : List ℕ) → o ≢ Bytes bs) → o ≢ Gone → collect (p ∷ ps) got failed k (o ∷ os) ≡ failed os
fetch_refused Done p ps got failed k os not_bytes not_gone = refl
fetch_refused (Bytes bs) p ps got failed k os not_bytes not_gone = absurd (not_bytes bs refl)
fetch_refused Fault p ps got failed k os not_bytes not_gone = refl
fetch_refused (Refused e) p ps got failed k os not_bytes not_gone = refl
fetch_refused (Accepted n) p ps got failed k os not_bytes not_gone = refl
fetch_refused (Swept n) p ps got failed k os not_bytes not_gone = refl
fetch_refused NoMore p ps got failed k os not_bytes not_gone = refl
fetch_refused (Answer a) p ps got failed k os not_bytes not_gone = refl
fetch_refused (Flag b) p ps got failed k os not_bytes not_gone = refl
fetch_refused Gone p ps got failed k os not_bytes not_gone = absurd (not_gone refl)

-- and so it does at what is left of a range
pub collect-refused : (c : Cursor) (o : Outcome) (got : List ℕ) (failed : Rests) (k : List ℕ → Rests) (os : List Outcome) → 0 < c.left → IsSound c → ((bs : List ℕ) → o ≢ Bytes bs) → o ≢ Gone → collect (pieces_left c) got failed k (o ∷ os) ≡ failed os
collect-refused c o got failed k os some sound not_bytes not_gone =
    ap (λ ps. collect ps got failed k (o ∷ os)) (pieces-first c.page c.off c.left sound.inside some)
    ∙ fetch_refused o (record { page = c.page; off = c.off; n = min c.left (4096 - c.off) }) (pieces (4096 * (c.page + 1) + 0) (c.left - min c.left (4096 - c.off))) got failed k os not_bytes not_gone

-- a caller that is gone ends it too
pub collect-gone : (c : Cursor) (got : List ℕ) (failed : Rests) (k : List ℕ → Rests) (os : List Outcome) → 0 < c.left → IsSound c → collect (pieces_left c) got failed k (Gone ∷ os) ≡ Say gone
collect-gone c got failed k os some sound = ap (λ ps. collect ps got failed k (Gone ∷ os)) (pieces-first c.page c.off c.left sound.inside some)

first_gives : (c : Cursor) (page off : ℕ) (o : Outcome) → IsTrue (can_have (Fetch page off (min c.left (4096 - c.off))) o) → GivesFirst c o
first_gives c page off Done can = tt
first_gives c page off (Bytes bs) can = let can : (length bs == min c.left (4096 - c.off)) ≡ true = can in grind (arith, nat_tests)
first_gives c page off Fault can = tt
first_gives c page off (Refused e) can = tt
first_gives c page off (Accepted m) can = tt
first_gives c page off (Swept m) can = tt
first_gives c page off NoMore can = tt
first_gives c page off (Answer a) can = tt
first_gives c page off (Flag b) can = tt
first_gives c page off Gone can = tt

-- the first fetch of a range gives the bytes of its first piece
pub collect-gives : (c : Cursor) (got : List ℕ) (failed : Rests) (k : List ℕ → Rests) (o : Outcome) → 0 < c.left → IsSound c → CanFollow (collect (pieces_left c) got failed k []) o → GivesFirst c o
collect-gives c got failed k o some sound can =
    let P : List Piece → Type 0 = λ ps. CanFollow (collect ps got failed k []) o in
    first_gives c c.page c.off o (subst P (pieces-first c.page c.off c.left sound.inside some) can)

-- what is left of a range has an action to come
pub put_all-does : (c : Cursor) (bytes : List ℕ) (failed : Next) (k : Rests) → 0 < c.left → IsSound c → (a : Action) × (put_all (pieces_left c) bytes failed k [] ≡ Do a)
put_all-does c bytes failed k some sound = (_, ap (λ ps. put_all ps bytes failed k []) (pieces-first c.page c.off c.left sound.inside some))

pub collect-does : (c : Cursor) (got : List ℕ) (failed : Rests) (k : List ℕ → Rests) → 0 < c.left → IsSound c → (a : Action) × (collect (pieces_left c) got failed k [] ≡ Do a)
collect-does c got failed k some sound = (_, ap (λ ps. collect ps got failed k []) (pieces-first c.page c.off c.left sound.inside some))

-- and that action takes memory
pub put_all-takes : (c : Cursor) (bytes : List ℕ) (failed : Next) (k : Rests) → 0 < c.left → IsSound c → takes_none (put_all (pieces_left c) bytes failed k []) ≡ false
put_all-takes c bytes failed k some sound = ap (λ ps. takes_none (put_all ps bytes failed k [])) (pieces-first c.page c.off c.left sound.inside some)

pub collect-takes : (c : Cursor) (got : List ℕ) (failed : Rests) (k : List ℕ → Rests) → 0 < c.left → IsSound c → takes_none (collect (pieces_left c) got failed k []) ≡ false
collect-takes c got failed k some sound = ap (λ ps. takes_none (collect ps got failed k [])) (pieces-first c.page c.off c.left sound.inside some)

pub some_piece : (c : Cursor) → 0 < c.left → IsSound c → 0 < length (pieces_left c)
some_piece c some sound = rw (pieces-first c.page c.off c.left sound.inside some) (omega arith)

-- two ranges are collected one after the other
pub collect-append : (ps qs : List Piece) (got : List ℕ) (failed : Rests) (k : List ℕ → Rests) (os : List Outcome)
    → collect (ps ++ qs) got failed k os ≡ collect ps got failed (λ bs os. collect qs bs failed k os) os
collect-append [] qs got failed k os = refl
collect-append (p ∷ ps) qs got failed k [] = refl
collect-append (p ∷ ps) qs got failed k (Done ∷ os) = refl
collect-append (p ∷ ps) qs got failed k (Bytes bs ∷ os) = collect-append ps qs (got ++ bs) failed k os
collect-append (p ∷ ps) qs got failed k (Fault ∷ os) = refl
collect-append (p ∷ ps) qs got failed k (Refused e ∷ os) = refl
collect-append (p ∷ ps) qs got failed k (Accepted n ∷ os) = refl
collect-append (p ∷ ps) qs got failed k (Swept n ∷ os) = refl
collect-append (p ∷ ps) qs got failed k (NoMore ∷ os) = refl
collect-append (p ∷ ps) qs got failed k (Answer a ∷ os) = refl
collect-append (p ∷ ps) qs got failed k (Flag b ∷ os) = refl
collect-append (p ∷ ps) qs got failed k (Gone ∷ os) = refl

-- what follows matters only for what it does
pub collect-same : (ps : List Piece) (got : List ℕ) (failed fallen : Rests) (k j : List ℕ → Rests) → ((os : List Outcome) → failed os ≡ fallen os)
    → ((bs : List ℕ) (os : List Outcome) → k bs os ≡ j bs os) → (os : List Outcome) → collect ps got failed k os ≡ collect ps got fallen j os
collect-same [] got failed fallen k j falls same os = same got os
collect-same (p ∷ ps) got failed fallen k j falls same [] = refl
collect-same (p ∷ ps) got failed fallen k j falls same (Bytes bs ∷ os) = collect-same ps (got ++ bs) failed fallen k j falls same os
collect-same (p ∷ ps) got failed fallen k j falls same (Done ∷ os) = falls os
collect-same (p ∷ ps) got failed fallen k j falls same (Fault ∷ os) = falls os
collect-same (p ∷ ps) got failed fallen k j falls same ((Refused e) ∷ os) = falls os
collect-same (p ∷ ps) got failed fallen k j falls same ((Accepted n) ∷ os) = falls os
collect-same (p ∷ ps) got failed fallen k j falls same ((Swept n) ∷ os) = falls os
collect-same (p ∷ ps) got failed fallen k j falls same (NoMore ∷ os) = falls os
collect-same (p ∷ ps) got failed fallen k j falls same ((Answer a) ∷ os) = falls os
collect-same (p ∷ ps) got failed fallen k j falls same ((Flag b) ∷ os) = falls os
collect-same (p ∷ ps) got failed fallen k j falls same (Gone ∷ os) = refl

-- a range of at most 64 bytes has at most two pieces
pub few_pieces : (at n : ℕ) → IsTrue (is_short n) → length (pieces at n) ≤ 2
few_pieces at n short = rw length-pieces (short_touches at n (grind (arith, nat_tests)))

touches_within : (at n : ℕ) → pages_touched at n ≤ n / 4096 + 2
touches_within at n = grind (arith, nat_tests)

-- a range has at most two pieces more than it has whole pages
pub pieces-within : (at n : ℕ) → length (pieces at n) ≤ n / 4096 + 2
pieces-within at n = rw length-pieces (touches_within at n)
