-- Laws of a ring that starts anew, and of where its pages stand then.
use Rattle.std.proofs.Common.{◌≡◌, ℕ, List, [], filter, IsTrue, Option, ap, ◌∙◌}
use Rattle.std.specs.Prelude.{Result, Ok, Err, IfOk, OnOk, OnErr}
use Rattle.argo_base.specs.declared.ring_key.RingKey.{RingKey}
use Rattle.argo_base.specs.Notices.{never_fits, doms_of}
use Rattle.argo_model.specs.Rules.RingBytes.{PagedRing}
use Rattle.guest_pages.specs.Pages.{can_lend, with_row, without}
use Rattle.guest_pages.specs.Rows.{numbers_of}
use Rattle.ring_core.specs.Held.{Held, Becomes}
use Rattle.ring_core.specs.Restarts.{restarted}
use Rattle.shared_parts.specs.declared.homes.Home.{Home}
use Rattle.shared_parts.specs.Homes.{settled, cleared}
use Rattle.shared_parts.specs.Rings.{Registry, Privates, IsRestarted, IsKept, has_ring, with_homes}

pub on_ok : {D F : Type 0} (P : Type 0) (r : Result D F) → P → OnOk r P
on_ok P (Ok d) holds = holds
on_ok P (Err e) holds = tt

module _ (old : Registry) (key : RingKey) (h g : Held) where
  -- where the pages of the ring stand, as it was found and as it is now
  abbrev pub noted_homes : Registry
  noted_homes = with_homes old (settled key 0 (numbers_of g.row) (cleared (numbers_of h.row) old.homes))

  pub noted : (first second : List (ℕ × List ℕ)) (one two : List (Option Home)) → first ≡ h.row → one ≡ cleared (numbers_of first) old.homes → second ≡ g.row → two ≡ settled key 0 (numbers_of second) one
      → with_homes old two ≡ noted_homes
  noted first second one two is_first is_one is_second is_two =
      ap (with_homes old)
      (is_two ∙ ap (settled key 0 (numbers_of second)) is_one
      ∙ ap (λ (row : List (ℕ × List ℕ)). settled key 0 (numbers_of second) (cleared (numbers_of row) old.homes)) is_first
      ∙ ap (λ (row : List (ℕ × List ℕ)). settled key 0 (numbers_of row) (cleared (numbers_of h.row) old.homes)) is_second)

  pages_are : (len : ℕ) (numbers own : List ℕ) → Becomes h g (restarted len numbers own) → numbers_of g.row ≡ numbers
  pages_are len numbers own becomes = ap (λ (p : PagedRing). p.ring.pages) (becomes 0)

  module _ {F : Type 0} (len : ℕ) (numbers own : List ℕ) (before after : Privates) where
    pub restarted_ok : (r : Result (List ℕ) F) (new : Registry) → new ≡ noted_homes
        → IfOk r (λ doms. doms ≡ doms_of (filter (never_fits len) h.notices)) → OnOk r (Becomes h g (restarted len numbers own))
        → OnOk r (after ≡ without (with_row before h.row) numbers) → OnOk r (IsTrue (can_lend (with_row before h.row) numbers))
        → IfOk r (λ ended. IsRestarted old new before after key len numbers ended)
    restarted_ok (Ok doms) new is gone becomes lent could = record {
      ring = h;
      could = could;
      lent = lent;
      left = is ∙ ap (λ (ns : List ℕ). with_homes old (settled key 0 ns (cleared (numbers_of h.row) old.homes))) (pages_are len numbers own becomes);
      gone = gone;
    }
    restarted_ok (Err e) new is gone becomes lent could = tt

  pub restarted_err : {D F : Type 0} (r : Result D F) (new : Registry) → new ≡ noted_homes → OnErr r (g ≡ h) → OnErr r (IsTrue (has_ring old key) → IsKept old new key)
  restarted_err (Ok d) new is same = tt
  restarted_err (Err e) new is same = λ there. record {
    ring = h;
    left = is ∙ ap (λ (k : Held). with_homes old (settled key 0 (numbers_of k.row) (cleared (numbers_of h.row) old.homes))) same;
  }
