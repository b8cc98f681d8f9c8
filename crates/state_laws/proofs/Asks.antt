-- Laws of the words in which programs are written: what they ask for lies in one page, or is a ring of a legal length and its pages.
use Rattle.std.proofs.Common.{◌≡◌, ℕ, zero, suc, ◌+◌, ◌*◌, ◌/◌, ◌<◌, ◌≤◌, Bool, true, false, List, [], ◌∷◌, ◌++◌, length, map, take, drop, refl, arith, length-take}
use Rattle.std.specs.List.{range_with_len}
use Rattle.argo_base.specs.declared.errno.Errno.{Errno}
use Rattle.argo_base.specs.declared.errno.Errno.TheVariants.{Fault as efault}
use Rattle.argo_base.specs.declared.piece.Piece.{Piece}
use Rattle.argo_base.specs.Pieces.{pieces, piece_in, pages_touched}
use Rattle.argo_model.specs.declared.action.Action.{Action}
use Rattle.argo_model.specs.declared.action.Action.TheVariants.{Rest, Fetch, Put}
use Rattle.argo_model.specs.declared.action.Outcome.{Outcome}
use Rattle.argo_model.specs.declared.action.Outcome.TheVariants.{Done, Bytes, Fault, Refused, Accepted, Swept, NoMore, Answer, Flag, Gone}
use Rattle.argo_model.specs.Programs.Asks.{Next, Do, Say, Rests, ask, if_done, if_bytes, put_all, collect, fetch_all, refusal, refuse_if, refuse_at_once, refuse_at_once_if, read, say_done}
use Rattle.state_laws.specs.Each.{Each}
use Rattle.state_laws.proofs.StateActs.{Lies}

-- what comes next, where it is an action, is such
abbrev pub IsLying : Next → Type 0
IsLying (Do a) = Lies a
IsLying (Say r) = Unit {0}

-- so is all that a program asks for
abbrev pub Lie : Rests → Type 0
Lie k = (os : List Outcome) → IsLying (k os)

abbrev pub LieAfter : (Outcome → Rests) → Type 0
LieAfter k = (o : Outcome) (os : List Outcome) → IsLying (k o os)

pub lie_ask : (a : Action) (k : Outcome → Rests) → Lies a → LieAfter k → Lie (ask a k)
lie_ask a k lies h [] = lies
lie_ask a k lies h (Done ∷ os) = h Done os
lie_ask a k lies h (Bytes bs ∷ os) = h (Bytes bs) os
lie_ask a k lies h (Fault ∷ os) = h Fault os
lie_ask a k lies h (Refused e ∷ os) = h (Refused e) os
lie_ask a k lies h (Accepted n ∷ os) = h (Accepted n) os
lie_ask a k lies h (Swept n ∷ os) = h (Swept n) os
lie_ask a k lies h (NoMore ∷ os) = h NoMore os
lie_ask a k lies h (Answer a' ∷ os) = h (Answer a') os
lie_ask a k lies h (Flag b ∷ os) = h (Flag b) os
lie_ask a k lies h (Gone ∷ os) = tt

pub lie_done : (failed : Next) (k : Rests) → IsLying failed → Lie k → LieAfter (if_done failed k)
lie_done failed k f h Done os = h os
lie_done failed k f h (Bytes bs) os = f
lie_done failed k f h Fault os = f
lie_done failed k f h (Refused e) os = f
lie_done failed k f h (Accepted n) os = f
lie_done failed k f h (Swept n) os = f
lie_done failed k f h NoMore os = f
lie_done failed k f h (Answer a) os = f
lie_done failed k f h (Flag b) os = f
lie_done failed k f h Gone os = f

pub lie_bytes : (failed : Rests) (k : List ℕ → Rests) → Lie failed → ((bs : List ℕ) → Lie (k bs)) → LieAfter (if_bytes failed k)
lie_bytes failed k f h Done os = f os
lie_bytes failed k f h (Bytes bs) os = h bs os
lie_bytes failed k f h Fault os = f os
lie_bytes failed k f h (Refused e) os = f os
lie_bytes failed k f h (Accepted n) os = f os
lie_bytes failed k f h (Swept n) os = f os
lie_bytes failed k f h NoMore os = f os
lie_bytes failed k f h (Answer a) os = f os
lie_bytes failed k f h (Flag b) os = f os
lie_bytes failed k f h Gone os = f os

-- ---- pieces

-- a piece lies in one page
abbrev pub InPage : Piece → Type 0
InPage p = p.off + p.n ≤ 4096

piece_in_page : (at n page : ℕ) → at < 4096 * page + 4096 → InPage (piece_in at n page)
piece_in_page at n page below = omega arith

pub pieces_in_page : (at n : ℕ) → Each InPage (pieces at n)
pieces_in_page at n = by (pages_touched at n) (at / 4096) (omega arith) where
  by : (k page : ℕ) → at < 4096 * page + 4096 → Each InPage (map (piece_in at n) (range_with_len page k))
  by zero page below = tt
  by (suc k) page below = (piece_in_page at n page below, by k (page + 1) (omega arith))

pub lie_put_all : (ps : List Piece) (bytes : List ℕ) (failed : Next) (k : Rests) → Each InPage ps → IsLying failed → Lie k → Lie (put_all ps bytes failed k)
lie_put_all [] bytes failed k fit f h os = h os
lie_put_all (p ∷ ps) bytes failed k fit f h os =
    lie_ask (Put p.page p.off (take p.n bytes)) (if_done failed (λ os. put_all ps (drop p.n bytes) failed k os)) (short fit.0)
    (lie_done failed (λ os. put_all ps (drop p.n bytes) failed k os) f (lie_put_all ps (drop p.n bytes) failed k fit.1 f h)) os where
      short : p.off + p.n ≤ 4096 → p.off + length (take p.n bytes) ≤ 4096
      short in_page = omega (arith, length-take p.n bytes)

pub lie_collect : (ps : List Piece) (got : List ℕ) (failed : Rests) (k : List ℕ → Rests) → Lie failed → ((bs : List ℕ) → Lie (k bs)) → Lie (collect ps got failed k)
lie_collect [] got failed k f h os = h got os
lie_collect (p ∷ ps) got failed k f h os =
    lie_ask (Fetch p.page p.off p.n) (if_bytes failed (λ bs os. collect ps (got ++ bs) failed k os)) tt
    (lie_bytes failed (λ bs os. collect ps (got ++ bs) failed k os) f (λ bs. lie_collect ps (got ++ bs) failed k f h)) os

pub lie_fetch_all : (ps : List Piece) (got : List ℕ) (failed : Next) (k : List ℕ → Rests) → IsLying failed → ((bs : List ℕ) → Lie (k bs)) → Lie (fetch_all ps got failed k)
lie_fetch_all ps got failed k f h = lie_collect ps got (λ os. failed) k (λ os. f) h

pub lie_read : (at n : ℕ) (k : List ℕ → Rests) → ((bs : List ℕ) → Lie (k bs)) → Lie (read at n k)
lie_read at n k h = lie_fetch_all (pieces at n) [] (refusal efault) k tt h

-- ---- refusals

pub lie_if : (test : Bool) (e : Errno) (k : Rests) → (test ≡ false → Lie k) → Lie (refuse_if test e k)
lie_if true e k h os = tt
lie_if false e k h os = h refl os

pub lie_at_once : (e : Errno) → Lie (refuse_at_once e)
lie_at_once e = lie_ask Rest (λ o os. refusal e) tt (λ o os. tt)

pub lie_at_once_if : (test : Bool) (e : Errno) (k : Rests) → Lie k → Lie (refuse_at_once_if test e k)
lie_at_once_if true e k h os = lie_at_once e os
lie_at_once_if false e k h os = h os

pub lie_say_done : LieAfter say_done
lie_say_done Done os = tt
lie_say_done (Bytes bs) os = tt
lie_say_done Fault os = tt
lie_say_done (Refused e) os = tt
lie_say_done (Accepted n) os = tt
lie_say_done (Swept n) os = tt
lie_say_done NoMore os = tt
lie_say_done (Answer a) os = tt
lie_say_done (Flag b) os = tt
lie_say_done Gone os = tt
