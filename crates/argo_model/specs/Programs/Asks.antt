-- The words in which programs of actions are written: each reads the outcomes that it is about, and goes on with those left.
use Rattle.std.specs.Prelude.{ℕ, Bool, true, false, List, [], ◌∷◌, ◌++◌, take, drop, pos, neg_ℤ, IsTrue}
use Rattle.argo_base.specs.declared.errno.Errno.{Errno}
use Rattle.argo_base.specs.declared.errno.Errno.TheVariants.{Fault as efault}
use Rattle.argo_base.specs.declared.piece.Piece.{Piece}
use Rattle.argo_base.specs.Errno.{number_of}
use Rattle.argo_base.specs.Pieces.{pieces}
use Rattle.argo_model.specs.declared.action.Action.{Action}
use Rattle.argo_model.specs.declared.action.Action.TheVariants.{Rest, Fetch, Put}
use Rattle.argo_model.specs.declared.action.Outcome.{Outcome}
use Rattle.argo_model.specs.declared.action.Outcome.TheVariants.{Done, Bytes, Fault, Refused, Accepted, Swept, NoMore, Answer, Flag, Gone}
use Rattle.argo_model.specs.declared.reply.Reply.{Reply}
use Rattle.argo_model.specs.declared.reply.Reply.TheVariants.{Number, Gone as gone}
use Rattle.argo_model.specs.Rules.Outcomes.{can_have}

-- what comes next: an action, or the reply
pub data Next : Type 0 where
  Do : (action : Action) → Next
  Say : (reply : Reply) → Next

-- the outcome is one that the next action can have
abbrev pub CanFollow : Next → Outcome → Type 0
CanFollow (Do a) o = IsTrue (can_have a o)
CanFollow (Say reply) o = ⊥

-- the outcomes that are still to be looked at
abbrev pub Rests : Type 0
Rests = List Outcome → Next

-- an outcome `Gone` ends every line; any other goes to its reader
abbrev pub unless_gone : Outcome → (Outcome → Rests) → Rests
unless_gone Done k os = k Done os
unless_gone (Bytes bs) k os = k (Bytes bs) os
unless_gone Fault k os = k Fault os
unless_gone (Refused e) k os = k (Refused e) os
unless_gone (Accepted n) k os = k (Accepted n) os
unless_gone (Swept serial) k os = k (Swept serial) os
unless_gone NoMore k os = k NoMore os
unless_gone (Answer a) k os = k (Answer a) os
unless_gone (Flag b) k os = k (Flag b) os
unless_gone Gone k os = Say gone

-- performs an action and goes on with its outcome
abbrev pub ask : Action → (Outcome → Rests) → Rests
ask a k [] = Do a
ask a k (o ∷ os) = unless_gone o k os

-- a put is done, or it ends the line with this reply
abbrev pub if_done : Next → Rests → Outcome → Rests
if_done failed k Done os = k os
if_done failed k o os = failed

-- a fetch gives bytes, or what follows a failure follows
abbrev pub if_bytes : Rests → (List ℕ → Rests) → Outcome → Rests
if_bytes failed k (Bytes bs) os = k bs os
if_bytes failed k o os = failed os

-- puts the bytes into the pieces, one after another
abbrev pub put_all : List Piece → List ℕ → Next → Rests → Rests
put_all [] bytes failed k os = k os
put_all (p ∷ ps) bytes failed k os =
    ask (Put p.page p.off (take p.n bytes)) (if_done failed (λ os. put_all ps (drop p.n bytes) failed k os)) os

-- fetches the pieces, one after another, and goes on with all their bytes, or with what follows a failure
abbrev pub collect : List Piece → List ℕ → Rests → (List ℕ → Rests) → Rests
collect [] got failed k os = k got os
collect (p ∷ ps) got failed k os =
    ask (Fetch p.page p.off p.n) (if_bytes failed (λ bs os. collect ps (got ++ bs) failed k os)) os

-- the same, where a failure ends the line with this reply
abbrev pub fetch_all : List Piece → List ℕ → Next → (List ℕ → Rests) → Rests
fetch_all ps got failed k os = collect ps got (λ os. failed) k os

-- a hypercall's refusal: minus the number of the error
abbrev pub refusal : Errno → Next
refusal e = Say (Number (neg_ℤ (pos (number_of e))))

-- refuses where the test holds, and else goes on
abbrev pub refuse_if : Bool → Errno → Rests → Rests
refuse_if true e k os = refusal e
refuse_if false e k os = k os

-- refuses without any other action, which takes one `Rest`
abbrev pub refuse_at_once : Errno → Rests
refuse_at_once e os = ask Rest (λ o os. refusal e) os

abbrev pub refuse_at_once_if : Bool → Errno → Rests → Rests
refuse_at_once_if true e k os = refuse_at_once e os
refuse_at_once_if false e k os = k os

-- reads n bytes of the caller at an address; a page that is not there refuses
abbrev pub read : ℕ → ℕ → (List ℕ → Rests) → Rests
read at n k os = fetch_all (pieces at n) [] (refusal efault) k os

-- replies 0 where an act is done, and else its refusal
abbrev pub say_done : Outcome → Rests
say_done (Refused e) os = refusal e
say_done o os = Say (Number (pos 0))
