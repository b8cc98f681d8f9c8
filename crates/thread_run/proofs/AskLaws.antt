-- Laws of the words in which programs are written: none of them destroys a domain by itself.
use Rattle.std.proofs.Common.{ℕ, Bool, true, false, List, [], ◌∷◌, ◌++◌, take, drop, IsTrue, refl}
use Rattle.argo_base.specs.declared.errno.Errno.{Errno}
use Rattle.argo_base.specs.declared.errno.Errno.TheVariants.{Fault as efault}
use Rattle.argo_base.specs.declared.piece.Piece.{Piece}
use Rattle.argo_base.specs.Pieces.{pieces}
use Rattle.argo_model.specs.declared.action.Action.{Action}
use Rattle.argo_model.specs.declared.action.Action.TheVariants.{Rest, Fetch, Put}
use Rattle.argo_model.specs.declared.action.Outcome.{Outcome}
use Rattle.argo_model.specs.declared.action.Outcome.TheVariants.{Done, Bytes, Fault, Refused, Accepted, Swept, NoMore, Answer, Flag, Gone}
use Rattle.argo_model.specs.Programs.Asks.{Next, Do, Say, Rests, ask, if_done, if_bytes, put_all, collect, fetch_all, refusal, refuse_if, refuse_at_once, refuse_at_once_if, read, say_done}
use Rattle.argo_model.specs.Rules.Possible.{Facts}
use Rattle.shared_world.specs.Possible.{may_end}

-- what comes next, where it is an action, destroys no domain but by the facts
abbrev pub MayCome : Facts → Next → Type 0
MayCome f (Do a) = IsTrue (may_end f a)
MayCome f (Say r) = Unit {0}

-- so is all that a program asks for
abbrev pub Spares : Facts → Rests → Type 0
Spares f k = (os : List Outcome) → MayCome f (k os)

abbrev pub SparesAfter : Facts → (Outcome → Rests) → Type 0
SparesAfter f k = (o : Outcome) (os : List Outcome) → MayCome f (k o os)

pub spare_ask : (f : Facts) (a : Action) (k : Outcome → Rests) → IsTrue (may_end f a) → SparesAfter f k → Spares f (ask a k)
spare_ask f a k may h [] = may
spare_ask f a k may h (Done ∷ os) = h Done os
spare_ask f a k may h (Bytes bs ∷ os) = h (Bytes bs) os
spare_ask f a k may h (Fault ∷ os) = h Fault os
spare_ask f a k may h (Refused e ∷ os) = h (Refused e) os
spare_ask f a k may h (Accepted n ∷ os) = h (Accepted n) os
spare_ask f a k may h (Swept n ∷ os) = h (Swept n) os
spare_ask f a k may h (NoMore ∷ os) = h NoMore os
spare_ask f a k may h (Answer x ∷ os) = h (Answer x) os
spare_ask f a k may h (Flag b ∷ os) = h (Flag b) os
spare_ask f a k may h (Gone ∷ os) = tt

pub spare_done : (f : Facts) (failed : Next) (k : Rests) → MayCome f failed → Spares f k → SparesAfter f (if_done failed k)
spare_done f failed k none h Done os = h os
spare_done f failed k none h (Bytes bs) os = none
spare_done f failed k none h Fault os = none
spare_done f failed k none h (Refused e) os = none
spare_done f failed k none h (Accepted n) os = none
spare_done f failed k none h (Swept n) os = none
spare_done f failed k none h NoMore os = none
spare_done f failed k none h (Answer a) os = none
spare_done f failed k none h (Flag b) os = none
spare_done f failed k none h Gone os = none

pub spare_bytes : (f : Facts) (failed : Rests) (k : List ℕ → Rests) → Spares f failed → ((bs : List ℕ) → Spares f (k bs)) → SparesAfter f (if_bytes failed k)
spare_bytes f failed k none h Done os = none os
spare_bytes f failed k none h (Bytes bs) os = h bs os
spare_bytes f failed k none h Fault os = none os
spare_bytes f failed k none h (Refused e) os = none os
spare_bytes f failed k none h (Accepted n) os = none os
spare_bytes f failed k none h (Swept n) os = none os
spare_bytes f failed k none h NoMore os = none os
spare_bytes f failed k none h (Answer a) os = none os
spare_bytes f failed k none h (Flag b) os = none os
spare_bytes f failed k none h Gone os = none os

pub spare_put_all : (f : Facts) (ps : List Piece) (bytes : List ℕ) (failed : Next) (k : Rests) → MayCome f failed → Spares f k → Spares f (put_all ps bytes failed k)
spare_put_all f [] bytes failed k none h os = h os
spare_put_all f (p ∷ ps) bytes failed k none h os =
    spare_ask f (Put p.page p.off (take p.n bytes)) (if_done failed (λ os. put_all ps (drop p.n bytes) failed k os)) refl
    (spare_done f failed (λ os. put_all ps (drop p.n bytes) failed k os) none (spare_put_all f ps (drop p.n bytes) failed k none h)) os

pub spare_collect : (f : Facts) (ps : List Piece) (got : List ℕ) (failed : Rests) (k : List ℕ → Rests) → Spares f failed → ((bs : List ℕ) → Spares f (k bs)) → Spares f (collect ps got failed k)
spare_collect f [] got failed k none h os = h got os
spare_collect f (p ∷ ps) got failed k none h os =
    spare_ask f (Fetch p.page p.off p.n) (if_bytes failed (λ bs os. collect ps (got ++ bs) failed k os)) refl
    (spare_bytes f failed (λ bs os. collect ps (got ++ bs) failed k os) none (λ bs. spare_collect f ps (got ++ bs) failed k none h)) os

pub spare_fetch_all : (f : Facts) (ps : List Piece) (got : List ℕ) (failed : Next) (k : List ℕ → Rests) → MayCome f failed → ((bs : List ℕ) → Spares f (k bs)) → Spares f (fetch_all ps got failed k)
spare_fetch_all f ps got failed k none h = spare_collect f ps got (λ os. failed) k (λ os. none) h

pub spare_read : (f : Facts) (at n : ℕ) (k : List ℕ → Rests) → ((bs : List ℕ) → Spares f (k bs)) → Spares f (read at n k)
spare_read f at n k h = spare_fetch_all f (pieces at n) [] (refusal efault) k tt h

-- ---- refusals

pub spare_if : (f : Facts) (test : Bool) (e : Errno) (k : Rests) → Spares f k → Spares f (refuse_if test e k)
spare_if f true e k h os = tt
spare_if f false e k h os = h os

pub spare_at_once : (f : Facts) (e : Errno) → Spares f (refuse_at_once e)
spare_at_once f e = spare_ask f Rest (λ o os. refusal e) refl (λ o os. tt)

pub spare_at_once_if : (f : Facts) (test : Bool) (e : Errno) (k : Rests) → Spares f k → Spares f (refuse_at_once_if test e k)
spare_at_once_if f true e k h os = spare_at_once f e os
spare_at_once_if f false e k h os = h os

pub spare_say_done : (f : Facts) → SparesAfter f say_done
spare_say_done f Done os = tt
spare_say_done f (Bytes bs) os = tt
spare_say_done f Fault os = tt
spare_say_done f (Refused e) os = tt
spare_say_done f (Accepted n) os = tt
spare_say_done f (Swept n) os = tt
spare_say_done f NoMore os = tt
spare_say_done f (Answer a) os = tt
spare_say_done f (Flag b) os = tt
spare_say_done f Gone os = tt
