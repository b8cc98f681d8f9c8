-- Laws of a message that is offered to a ring: what becomes of the ring's bytes.
use Rattle.std.proofs.Common.{◌≡◌, ℕ, ◌/◌, Bool, true, false, ◌&&◌, not, if◌then◌else◌, IsTrue, List, length, Result, Ok, Err, OnOk, refl, sym, ap, ◌∙◌}
use Rattle.argo_base.specs.declared.errno.Errno.{Errno}
use Rattle.argo_base.specs.declared.errno.Errno.TheVariants.{MsgSize, Busy, Again, Fault}
use Rattle.argo_base.specs.Notices.{is_busy}
use Rattle.argo_base.specs.Slots.{fits, is_too_big}
use Rattle.argo_model.specs.declared.action.Load.TheVariants.{Body, Faulted, Refused}
use Rattle.argo_model.specs.declared.action.Outcome.TheVariants.{Refused as IsRefused}
use Rattle.argo_model.specs.Rules.State.{Ring}
use Rattle.argo_model.specs.Rules.Deliver.{Offer, offer_load, wait_for_room, with_notice, accepted, message_of, bytes_with}
use Rattle.argo_model.specs.Rules.Effects.{Change, refused, leaving, refuse_if, after}
use Rattle.argo_model.specs.Rules.RingBytes.{PagedRing, paged, free, laid, ring_bytes}
use Rattle.flat_live.specs.Memory.{are_there}
use Rattle.flat_live.specs.Offers.{offered}
use Rattle.flat_live.proofs.LaidLaws.{laid_own}

-- what holds in any case holds where the call succeeds
pub ok_in_any_case : {T E P : Type 0} (r : Result T E) → P → OnOk r P
ok_in_any_case (Ok x) p = p
ok_in_any_case (Err e) p = tt

-- a ring that keeps its bytes leaves the memory as it is
pub memory_kept : (memory : List ℕ) (r : Ring) (p : PagedRing) → IsTrue (are_there (length memory / 4096) r.pages) → p.own ≡ ring_bytes memory r.pages
    → memory ≡ laid r.pages p.own memory
memory_kept memory r p there same = sym (laid_own memory r.pages there) ∙ ap (λ own. laid r.pages own memory) (sym same)

-- ---- what does not fit

waiting_own : (p : PagedRing) (sender n : ℕ) (busy : Bool) → (after p (refuse_if busy Busy (leaving (IsRefused Again) (with_notice sender n p)))).own ≡ p.own
waiting_own p sender n true = refl
waiting_own p sender n false = refl

unfit_own : (p : PagedRing) (sender n : ℕ) (rest : Change PagedRing) (big fit : Bool) → (not big && fit) ≡ false
    → (after p (refuse_if big MsgSize (if fit then rest else wait_for_room p sender n))).own ≡ p.own
unfit_own p sender n rest true fit h = refl
unfit_own p sender n rest false true h = cc
unfit_own p sender n rest false false h = waiting_own p sender n (is_busy p.ring.notices sender)

fit_is : (p : PagedRing) (sender n : ℕ) (rest : Change PagedRing) (big fit : Bool) → (not big && fit) ≡ true
    → refuse_if big MsgSize (if fit then rest else wait_for_room p sender n) ≡ rest
fit_is p sender n rest true fit h = cc
fit_is p sender n rest false true h = refl
fit_is p sender n rest false false h = cc

-- ---- offers

module _ (memory : List ℕ) (r : Ring) (owner : ℕ) (o : Offer) where
  pub refused_own : (e : Errno) → o.load ≡ Refused e → (offered memory r owner o).own ≡ ring_bytes memory r.pages
  refused_own e is = ap (λ l. (after (paged memory r) (offer_load (paged memory r) owner o l)).own) is

  pub faulted_own : (n : ℕ) → o.load ≡ Faulted n → (offered memory r owner o).own ≡ ring_bytes memory r.pages
  faulted_own n is =
      let p = paged memory r in
      ap (λ l. (after p (offer_load p owner o l)).own) is ∙ by (is_too_big r.len n) (fits (free p) n) where
        by : (big fit : Bool) → (after (paged memory r) (refuse_if big MsgSize (if fit then refused Fault else wait_for_room (paged memory r) o.sender n))).own ≡ ring_bytes memory r.pages
        by true fit = refl
        by false true = refl
        by false false = waiting_own (paged memory r) o.sender n (is_busy r.notices o.sender)

  pub away_own : (bytes : List ℕ) → o.load ≡ Body bytes → (not (is_too_big r.len (length bytes)) && fits (free (paged memory r)) (length bytes)) ≡ false
      → (offered memory r owner o).own ≡ ring_bytes memory r.pages
  away_own bytes is no_room =
      let p = paged memory r in
      ap (λ l. (after p (offer_load p owner o l)).own) is
      ∙ unfit_own p o.sender (length bytes) (accepted p owner (message_of o bytes)) (is_too_big r.len (length bytes)) (fits (free p) (length bytes)) no_room

  pub accepted_own : (bytes : List ℕ) → o.load ≡ Body bytes → (not (is_too_big r.len (length bytes)) && fits (free (paged memory r)) (length bytes)) ≡ true
      → (offered memory r owner o).own ≡ bytes_with (paged memory r) (message_of o bytes)
  accepted_own bytes is room =
      let p = paged memory r in
      ap (λ l. (after p (offer_load p owner o l)).own) is
      ∙ ap (λ c. (after p c).own) (fit_is p o.sender (length bytes) (accepted p owner (message_of o bytes)) (is_too_big r.len (length bytes)) (fits (free p) (length bytes)) room)
