-- Why a send has its reply: each reply of sendv has one cause in what the steps of the line looked at. And what the send has then done:
-- a count says that the message stands for what was fetched, and -11 that the caller waits on the ring that it met.
use Rattle.std.specs.Prelude.{◌≡◌, ℕ, ◌+◌, ◌*◌, ◌^◌, Bool, false, ◌&&◌, ◌||◌, not, nat_lt, nat_le, if◌then◌else◌, List, [], ◌∷◌, ◌++◌, length, map, take, drop, is_none, IsTrue, IsSomeAnd, unwrap_or, Option, Some, None, option_map, option_and_then, pos, neg_ℤ, Result, Ok, Err}
use Rattle.std.specs.List.{list_any, last_or}
use Rattle.argo_base.specs.declared.errno.Errno.{Errno}
use Rattle.argo_base.specs.declared.errno.Errno.TheVariants.{Perm, Srch, Again, Fault as efault, Busy, NoDev, Inval, MsgSize, ConnRefused}
use Rattle.argo_base.specs.declared.message.Message.{Message}
use Rattle.argo_base.specs.declared.piece.Piece.{Piece}
use Rattle.argo_base.specs.Errno.{number_of}
use Rattle.argo_base.specs.Slots.{fits, is_too_big}
use Rattle.argo_base.specs.Layout.{u16_at, u32_at}
use Rattle.argo_base.specs.Pieces.{pieces}
use Rattle.argo_base.specs.Iovs.{Iov, iovs_at, verdict_of, gathered_pieces}
use Rattle.argo_model.specs.declared.reply.Reply.{Reply}
use Rattle.argo_model.specs.declared.reply.Reply.TheVariants.{Number, Gone}
use Rattle.argo_model.specs.Rules.State.{Live, State, live_of, is_alive, is_on, has_page}
use Rattle.argo_base.specs.Notices.{is_busy, size_of}
use Rattle.argo_model.specs.Rules.RingBytes.{free}
use Rattle.argo_model.specs.Rules.Matches.{RingAt, match_at, paged_at}
use Rattle.argo_model.specs.Programs.Send.{is_send_addr, is_own_source}
use Rattle.argo_model.specs.Rules.Outcomes.{is_gone}
use Rattle.argo_model.specs.Laws.Transitions.{Transition}
use Rattle.argo_model.specs.Laws.RingNames.{RingName, name_of, has_name}
use Rattle.argo_model.specs.Laws.Taken.{brought_by}

-- the arguments of a send: of the addresses, of the iovs and their count, and the type of the message
pub record Send : Type 0 where
  pub caller : ℕ
  pub a1 : ℕ
  pub a2 : ℕ
  pub a3 : ℕ
  pub a4 : ℕ

-- what its steps looked at: the two addresses, the list of iovs and the body, each none where a piece of it was absent when its
-- step looked; and the state at the delivery
pub record Looked : Type 0 where
  pub address : Option (List ℕ)
  pub list : Option (List ℕ)
  pub body : Option (List ℕ)
  pub state : State

-- the bytes of a piece of a domain's memory, where the domain has the page
abbrev pub piece_of : Piece → Live → Option (List ℕ)
piece_of p live = if has_page live p.page then Some (take p.n (drop (4096 * p.page + p.off) live.bytes)) else None

abbrev pub piece_in : State → ℕ → Piece → Option (List ℕ)
piece_in s d p = option_and_then (piece_of p) (live_of s d)

-- the bytes of a range, each piece as its own step found it
abbrev pub found : ℕ → List Piece → List State → Option (List ℕ)
found d [] states = Some []
found d (p ∷ ps) [] = None
found d (p ∷ ps) (s ∷ states) = option_and_then (λ bs. option_map (λ more. bs ++ more) (found d ps states)) (piece_in s d p)

-- the iovs that a list holds
abbrev pub iovs_in : Send → Option (List ℕ) → List Iov
iovs_in x list = iovs_at (unwrap_or list []) x.a3

-- how many steps the two addresses take, and how many they take with the list of iovs
abbrev pub address_steps : Send → ℕ
address_steps x = length (pieces x.a1 16)

abbrev pub list_steps : Send → ℕ
list_steps x = address_steps x + length (pieces x.a2 (16 * x.a3))

-- the list of iovs as its steps found it
abbrev pub list_in : Send → List State → Option (List ℕ)
list_in x states = found x.caller (pieces x.a2 (16 * x.a3)) (drop (address_steps x) states)

-- what a send looked at in the states at its steps, of which the last is that of the delivery
abbrev pub looked_at : Send → List State → Looked
looked_at x states =
    record {
      address = found x.caller (pieces x.a1 16) states;
      list = list_in x states;
      body = found x.caller (gathered_pieces (iovs_in x (list_in x states))) (drop (list_steps x) states);
      state = unwrap_or (last_or None states) [];
    }

-- the bytes of the two addresses
abbrev pub address_of : Looked → List ℕ
address_of l = unwrap_or l.address []

-- the domain that the send is to
abbrev pub receiver_of : Looked → ℕ
receiver_of l = u16_at (address_of l) 12

-- the ring that it meets there in a state
abbrev pub met_in : Send → Looked → State → Option RingAt
met_in x l s = match_at s (receiver_of l) (u32_at (address_of l) 8) x.caller

-- the ring that it meets at the delivery
abbrev pub ring_of : Send → Looked → Option RingAt
ring_of x l = met_in x l l.state

-- the message that it brings: the bytes that were fetched, under the caller's domain and the port that the caller named
abbrev pub message_in : Send → Looked → Message
message_in x l = record { src = x.caller; port = u32_at (address_of l) 0; kind = x.a4; body = unwrap_or l.body [] }

-- minus the number of an error
abbrev pub says : Errno → Reply
says e = Number (neg_ℤ (pos (number_of e)))

-- the error where the test holds, and else what follows
abbrev pub row : Bool → Errno → Reply → Reply
row test e rest = if test then says e else rest

-- the causes at a ring, of a body of n bytes
abbrev pub cause_at : Send → Looked → ℕ → RingAt → Reply
cause_at x l n m =
    row (is_too_big m.ring.len n) MsgSize (
    row (not (fits (free (paged_at m)) n) && not (is_busy m.ring.notices x.caller)) Again (
    row (not (fits (free (paged_at m)) n)) Busy (
    row (is_none l.body) efault (
    Number (pos n)))))

-- the verdict on the iovs comes first there
abbrev pub cause_judged : Send → Looked → RingAt → Result ℕ Errno → Reply
cause_judged x l m (Err e) = says e
cause_judged x l m (Ok n) = cause_at x l n m

abbrev pub cause_at_match : Send → Looked → Option RingAt → Reply
cause_at_match x l None = says ConnRefused
cause_at_match x l (Some m) = cause_judged x l m (verdict_of (iovs_in x l.list))

-- the first cause that holds: too many iovs or no 32-bit type; absent addresses; a pad of them; a foreign source; an absent list
-- of iovs; a receiver that is not alive; a caller that is off; and then no ring, a refused iov, and the causes at the ring
abbrev pub cause_of : Send → Looked → Reply
cause_of x l =
    row (nat_lt 8 x.a3 || nat_le (2 ^ 32) x.a4) Inval (
    row (is_none l.address) efault (
    row (not (is_send_addr (address_of l))) Inval (
    row (not (is_own_source x.caller (address_of l))) Perm (
    row (is_none l.list) efault (
    row (not (is_alive l.state (receiver_of l))) Srch (
    row (not (is_on l.state x.caller)) NoDev (
    cause_at_match x l (ring_of x l))))))))

-- what the steps of a send's line looked at
abbrev pub looked_by : Send → List Transition → Looked
looked_by x transitions = looked_at x (map (λ d. d.before) transitions)

-- the reply of a send by the steps of its line: `gone` where an outcome was that, and else its cause
abbrev pub reply_of_send : Send → List Transition → Reply
reply_of_send x transitions =
    if list_any (λ d. is_gone d.step.outcome) transitions then Gone else cause_of x (looked_by x transitions)

-- a ring of this name has a notice of the domain, for n bytes or more
abbrev pub waits_on : RingName → ℕ → ℕ → RingAt → Bool
waits_on name d n m = has_name name m && unwrap_or (option_map (nat_le n) (size_of m.ring.notices d)) false

-- the verdict on a send's iovs was a size, and in the state after the delivery the caller waits for room for that size or more, on
-- the ring that it met there and still meets
abbrev pub WaitsForSize : Send → Looked → State → RingAt → Result ℕ Errno → Type 0
WaitsForSize x l after m (Err e) = ⊥
WaitsForSize x l after m (Ok n) = IsSomeAnd (met_in x l after) (λ now. IsTrue (waits_on (name_of m) x.caller n now))

-- after the delivery the caller's notice stands on the ring that it met, with no smaller size than the body's
abbrev pub IsNoted : Send → Looked → State → Type 0
IsNoted x l after = IsSomeAnd (ring_of x l) (λ m. WaitsForSize x l after m (verdict_of (iovs_in x l.list)))

-- the step brought the message of the send, with a body of n bytes, into the ring that the send met
pub record BringsMessage (x : Send) (l : Looked) (t : Transition) (n : ℕ) : Type 0 where
  pub brought : IsSomeAnd (ring_of x l) (λ m. brought_by (name_of m) t ≡ Some (message_in x l))
  pub size : length (message_in x l).body ≡ n

-- what holds of the count that a reply is; of another reply nothing is said
abbrev pub IfCount : Reply → (ℕ → Type 0) → Type 0
IfCount (Number (pos n)) P = P n
IfCount r P = Unit {0}

-- what a send with these steps and this reply has come to: the reply is its cause's; after -11 the caller is noted by the last step;
-- and a count says that the last step brought the message, of that many bytes
pub record SendHasCause (x : Send) (transitions : List Transition) (r : Reply) : Type 0 where
  pub reply : r ≡ reply_of_send x transitions
  pub noted : r ≡ says Again → IsSomeAnd (last_or None transitions) (λ t. IsNoted x (looked_by x transitions) t.after)
  pub brought : IfCount r (λ n. IsSomeAnd (last_or None transitions) (λ t. BringsMessage x (looked_by x transitions) t n))
