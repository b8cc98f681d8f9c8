-- A message that is offered to a ring, and what is left where it does not fit.
use Rattle.std.specs.Prelude.{◌≡◌, ℕ, List}
use Rattle.argo_base.specs.Slots.{is_too_big}
use Rattle.argo_base.specs.declared.errno.Errno.TheVariants.{MsgSize}
use Rattle.argo_base.specs.declared.message.Message.{Message}
use Rattle.argo_model.specs.declared.action.Load.TheVariants.{Body}
use Rattle.argo_model.specs.Rules.Deliver.{Offer, message_of, offer, wait_for_room}
use Rattle.argo_model.specs.Rules.Effects.{Change, refuse_if, after}
use Rattle.argo_model.specs.Rules.RingBytes.{PagedRing, paged}
use Rattle.argo_model.specs.Rules.State.{Ring}

-- a body of n bytes that does not fit, ever or now
abbrev pub turned_away : PagedRing → ℕ → ℕ → Change PagedRing
turned_away p sender n = refuse_if (is_too_big p.ring.len n) MsgSize (wait_for_room p sender n)

-- a ring in its owner's memory after an offer
abbrev pub offered : List ℕ → Ring → ℕ → Offer → PagedRing
offered memory r owner o = after (paged memory r) (offer (paged memory r) owner o)

-- where the load of an offer is a body, this holds of the message that it makes
abbrev pub IfBody : Offer → (Message → Type 0) → Type 0
IfBody o P = (body : List ℕ) → o.load ≡ Body body → P (message_of o body)
