-- Laws of where lines go.
use Rattle.std.proofs.Common.{◌≡◌, ◌≢◌, ℕ, ◌+◌, ◌-◌, ◌/◌, ◌<◌, ◌≤◌, Bool, true, false, List, [], length, drop, refl, sym, ap, ◌∙◌, arith}
use Rattle.argo_base.specs.declared.errno.Errno.{Errno}
use Rattle.argo_base.specs.declared.piece.Piece.{Piece}
use Rattle.argo_base.specs.Pieces.{pieces}
use Rattle.line_phase.specs.declared.phase.Phase.{Phase}
use Rattle.line_phase.specs.declared.phase.Followed.{Followed}
use Rattle.line_phase.specs.declared.phase.Followed.TheVariants.{To, Over}
use Rattle.line_phase.specs.declared.phase.Reader.{Reader}
use Rattle.line_phase.specs.declared.phase.Text.{Text}
use Rattle.line_phase.specs.declared.cursor.Cursor.{Cursor}
use Rattle.line_phase.specs.declared.phase.Phase.TheVariants.{Writing}
use Rattle.argo_model.specs.declared.line.Line.{Line}
use Rattle.argo_model.specs.declared.action.Outcome.{Outcome}
use Rattle.argo_model.specs.declared.action.Outcome.TheVariants.{Done, Bytes, Fault, Refused, Accepted, Swept, NoMore, Answer, Flag, Gone}
use Rattle.argo_model.specs.declared.reply.Reply.{Reply}
use Rattle.argo_model.specs.Programs.Asks.{Next, Say, Rests, fetch_all, put_all, refusal, refuse_if, refuse_at_once, refuse_at_once_if, unless_gone}
use Rattle.line_phase.specs.Ranges.{last_of}
use Rattle.line_phase.specs.Cursor.{pieces_left, IsSound}
use Rattle.line_phase.specs.Text.{text_of, after_put, if_not_put, IsText, most_after_put}
use Rattle.line_phase.specs.Reader.{after_read, after_fault, most_after}
use Rattle.line_phase.specs.Followed.{Leads, Reads}
use Rattle.line_phase.proofs.RangeLaws.{collect-same, pieces-within}

-- two programs that do the same lead to the same
pub leads_by : (k j : Rests) (most : ℕ) (o : Followed) → ((os : List Outcome) → k os ≡ j os) → Leads j most o → Leads k most o
leads_by k j most o same h = record { rest = λ line os. same os ∙ h.rest line os; ready = h.ready; few = h.few }

pub leads_within : (k : Rests) (most more : ℕ) (o : Followed) → most ≤ more → Leads k most o → Leads k more o
leads_within k most more o within h = record { rest = h.rest; ready = h.ready; few = let few = h.few in omega (arith, few) }

-- a program that says its reply
pub leads_over : (k : Rests) (most : ℕ) (reply : Reply) → ((os : List Outcome) → k os ≡ Say reply) → Leads k most (Over reply)
leads_over k most reply says = record { rest = λ line os. says os; ready = λ line. tt; few = omega arith }

-- a refusal, and what follows where none comes
pub leads_refused : (b : Bool) (e : Errno) (k : Rests) (most : ℕ) (reply : Reply) → b ≡ true → Say reply ≡ refusal e → Leads (refuse_if b e k) most (Over reply)
leads_refused b e k most reply is_true said = leads_over (refuse_if b e k) most reply (λ os. ap (λ t. refuse_if t e k os) is_true ∙ sym said)

pub leads_passed : (b : Bool) (e : Errno) (k : Rests) (most : ℕ) (o : Followed) → b ≡ false → Leads k most o → Leads (refuse_if b e k) most o
leads_passed b e k most o is_false h = leads_by (refuse_if b e k) k most o (λ os. ap (λ t. refuse_if t e k os) is_false) h

pub leads_refused_at_once : (b : Bool) (e : Errno) (k : Rests) (most : ℕ) (o : Followed) → b ≡ true → 1 ≤ most → Leads (refuse_at_once e) 1 o → Leads (refuse_at_once_if b e k) most o
leads_refused_at_once b e k most o is_true some h =
    leads_within (refuse_at_once_if b e k) 1 most o some (leads_by (refuse_at_once_if b e k) (refuse_at_once e) 1 o (λ os. ap (λ t. refuse_at_once_if t e k os) is_true) h)

pub leads_passed_at_once : (b : Bool) (e : Errno) (k : Rests) (most : ℕ) (o : Followed) → b ≡ false → Leads k most o → Leads (refuse_at_once_if b e k) most o
leads_passed_at_once b e k most o is_false h = leads_by (refuse_at_once_if b e k) k most o (λ os. ap (λ t. refuse_at_once_if t e k os) is_false) h

-- a range that is read
pub reads_lead : (ps : List Piece) (at n : ℕ) (reader : Reader) (phase : Phase) (failed : Next) (k : List ℕ → Rests) (most : ℕ)
    → ps ≡ pieces at n → ((os : List Outcome) → failed ≡ after_fault reader os) → ((bs : List ℕ) (os : List Outcome) → k bs os ≡ after_read reader bs os)
    → n / 4096 + 2 + most_after reader ≤ most → Reads ps reader phase → Leads (fetch_all (pieces at n) [] failed k) most (To phase)
reads_lead ps at n reader phase failed k most same falls goes within h = record {
  rest = λ line os.
      ap (λ qs. fetch_all qs [] failed k os) (sym same)
      ∙ collect-same ps [] (λ os. failed) (after_fault reader) k (after_read reader) falls goes os
      ∙ h.rest line os;
  ready = h.ready;
  few = let few = pieces-within at n in let left = h.left in let long : length ps ≡ length (pieces at n) = ap length same in omega arith;
}

-- an outcome other than `Gone` goes to its reader
pub unless_gone-other : (o : Outcome) (k : Outcome → Rests) (os : List Outcome) → o ≢ Gone → unless_gone o k os ≡ k o os
unless_gone-other Done k os other = refl
unless_gone-other (Bytes bs) k os other = refl
unless_gone-other Fault k os other = refl
unless_gone-other (Refused e) k os other = refl
unless_gone-other (Accepted n) k os other = refl
unless_gone-other (Swept n) k os other = refl
unless_gone-other NoMore k os other = refl
unless_gone-other (Answer a) k os other = refl
unless_gone-other (Flag b) k os other = refl
unless_gone-other Gone k os other = absurd (other refl)

-- the last bytes of a list that are all of it
pub last_of-all : (n : ℕ) (bytes : List ℕ) → n ≡ length bytes → last_of n bytes ≡ bytes
last_of-all n bytes all = let none : length bytes - n ≡ 0 = omega arith in ap (λ m. drop m bytes) none

-- a range that is written
pub writes_lead : (c : Cursor) (at n : ℕ) (text : Text) (bytes : List ℕ) (most : ℕ)
    → pieces_left c ≡ pieces at n → c.left ≡ n → IsSound c → 0 < n → length bytes ≡ n → ((line : Line) → text_of line text ≡ bytes) → IsText text
    → n / 4096 + 2 + most_after_put text ≤ most → Leads (put_all (pieces at n) bytes (if_not_put text) (after_put text)) most (To (Writing c text))
writes_lead c at n text bytes most same left sound some size is ready within = record {
  rest = λ line os.
      ap (λ ps. put_all ps bytes (if_not_put text) (after_put text) os) (sym same)
      ∙ ap (λ bs. put_all (pieces_left c) bs (if_not_put text) (after_put text) os) (sym (ap (λ bs. last_of c.left bs) (is line) ∙ last_of-all c.left bytes (left ∙ sym size)));
  ready = λ line. record {
    some = let e = left in omega (arith, e);
    sound = sound;
    size = let e = ap length (is line) in omega (arith, e);
    ready = ready;
  };
  few = let few = pieces-within at n in let long : length (pieces_left c) ≡ length (pieces at n) = ap length same in omega arith;
}
