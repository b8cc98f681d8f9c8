-- Laws of acts on one ring, which keep its pages.
use Rattle.std.proofs.Common.{◌≡◌, ℕ, ◌+◌, ◌<◌, ◌≤◌, min, max, Bool, true, false, ◌&&◌, ◌||◌, ◌==◌, if◌then◌else◌, List, [], ◌∷◌, length, Option, None, ◌⊎◌, inl, inr, refl, sym, ap, ◌∙◌, arith}
use Rattle.std.proofs.lemmas.Bool.{cases_lt}
use Rattle.std.proofs.lemmas.Bool.Decides.{nat_tests}
use Rattle.argo_base.specs.Layout.{u32_at}
use Rattle.argo_base.proofs.SpliceLaws.{splice-nil}
use Rattle.argo_model.specs.Rules.Puts.{meets, touches, moves, taken_by, clean_after, dirtied, ring_after_put}
use Rattle.std.specs.List.{All}
use Rattle.argo_base.specs.declared.errno.Errno.TheVariants.{MsgSize, Busy, Again, Fault}
use Rattle.argo_base.specs.Notices.{is_busy}
use Rattle.argo_base.specs.Slots.{fits, is_too_big}
use Rattle.argo_model.specs.declared.action.Load.{Load}
use Rattle.argo_model.specs.declared.action.Load.TheVariants.{Body, Faulted, Refused}
use Rattle.argo_model.specs.declared.action.Outcome.TheVariants.{Refused as IsRefused}
use Rattle.argo_model.specs.Rules.Deliver.{Offer, offer, offer_load, wait_for_room, with_notice, accepted, message_of}
use Rattle.argo_model.specs.Rules.Effects.{Change, after, refuse_if, refused, leaving}
use Rattle.argo_model.specs.Rules.RingBytes.{PagedRing, free, rx_word}
use Rattle.guest_pages.proofs.FlatLaws.{length-row_bytes}
use Rattle.ring_core.specs.Held.{Held, paged, Becomes}
use Rattle.ring_core.specs.Puts.{put_in}
use Rattle.ring_core.proofs.TestLaws.{says_same}
use Rattle.paged_live.specs.Parts.{StandsStill}
use Rattle.paged_live.proofs.PutLaws.{put_pages}

-- a ring that the rules leave on its pages, each of which is whole
pub stands_still : (old new : Held) (rule : PagedRing → PagedRing) → new.id ≡ old.id → Becomes old new rule → ((p : PagedRing) → (rule p).ring.pages ≡ p.ring.pages)
    → All (λ p. length p.1 ≡ 4096) new.row → StandsStill old new
stands_still old new rule id becomes keeps whole =
    record {
      id = id;
      pages = ap (λ (p : PagedRing). p.ring.pages) (becomes 0) ∙ keeps (paged 0 old);
      sized = length-row_bytes new.row whole;
    }

pub put_in_pages : (at : ℕ) (bytes : List ℕ) (p : PagedRing) → (put_in p at bytes).ring.pages ≡ p.ring.pages
put_in_pages at bytes p = put_pages p at bytes

waiting_pages : (p : PagedRing) (sender n : ℕ) (busy : Bool) → (after p (refuse_if busy Busy (leaving (IsRefused Again) (with_notice sender n p)))).ring.pages ≡ p.ring.pages
waiting_pages p sender n true = refl
waiting_pages p sender n false = refl

fit_pages : (p : PagedRing) (sender n : ℕ) (rest : Change PagedRing) (big fit : Bool) → (after p rest).ring.pages ≡ p.ring.pages
    → (after p (refuse_if big MsgSize (if fit then rest else wait_for_room p sender n))).ring.pages ≡ p.ring.pages
fit_pages p sender n rest true fit same = refl
fit_pages p sender n rest false true same = same
fit_pages p sender n rest false false same = waiting_pages p sender n (is_busy p.ring.notices sender)

load_pages : (p : PagedRing) (owner : ℕ) (o : Offer) (load : Load) → (after p (offer_load p owner o load)).ring.pages ≡ p.ring.pages
load_pages p owner o (Refused e) = refl
load_pages p owner o (Faulted n) = fit_pages p o.sender n (refused Fault) (is_too_big p.ring.len n) (fits (free p) n) refl
load_pages p owner o (Body bytes) =
    fit_pages p o.sender (length bytes) (accepted p owner (message_of o bytes)) (is_too_big p.ring.len (length bytes)) (fits (free p) (length bytes)) refl

pub offer_pages : (owner : ℕ) (o : Offer) (p : PagedRing) → (after p (offer p owner o)).ring.pages ≡ p.ring.pages
offer_pages owner o p = load_pages p owner o o.load

-- ---- a put of nothing

no_meeting : (at low high : ℕ) → meets at (at + 0) low high ≡ false
no_meeting at low high = by (cases_lt (max at low) (min (at + 0) high)) where
  by : (max at low < min (at + 0) high) ⊎ (min (at + 0) high ≤ max at low) → meets at (at + 0) low high ≡ false
  by (inl less) = absurd (omega arith)
  by (inr more) = grind (arith, nat_tests)

nothing_touched : (len at : ℕ) → touches len at 0 ≡ false
nothing_touched len at = ap (λ b. b || meets at (at + 0) 64 (64 + len)) (no_meeting at 0 8) ∙ no_meeting at 64 (64 + len)

nothing_moved : (b c : Bool) (r : Option ℕ) → (if b && c && false then r else None) ≡ None
nothing_moved true true r = refl
nothing_moved true false r = refl
nothing_moved false c r = refl

pub put_nothing : (p : PagedRing) (at : ℕ) → put_in p at [] ≡ p
put_nothing p at =
    ap (λ own. record { ring = ring_after_put p at []; own = own }) (splice-nil p.own at) ∙ ap (λ r. record p { ring = r }) (by p.ring.clean) where
      still : clean_after p.ring at 0 None ≡ p.ring
      still = ap (λ b. if b then dirtied p.ring else p.ring) (nothing_touched p.ring.len at)

      moved : moves p at [] ≡ None
      moved = nothing_moved p.ring.clean (at == 0) (taken_by p.ring.len (rx_word p.own) p.ring.untaken (u32_at [] 0))

      by : (b : Bool) → (if b then clean_after p.ring at 0 (moves p at []) else p.ring) ≡ p.ring
      by true = ap (clean_after p.ring at 0) moved ∙ still
      by false = refl

-- a test that says that there are no bytes
pub no_bytes : (bytes : List ℕ) (b : Bool) → b ≡ (length bytes == 0) → b ≡ true → bytes ≡ []
no_bytes [] b is h = refl
no_bytes (x ∷ xs) b is h = let t : (length (x ∷ xs) == 0) ≡ true = sym is ∙ h in absurd (omega (arith, says_same (length (x ∷ xs)) 0 t))
