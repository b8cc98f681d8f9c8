-- Laws of a registration among a domain's own rings, case by case.
use Rattle.std.proofs.Common.{◌≡◌, ℕ, Bool, true, false, ◌&&◌, if◌then◌else◌, List, length, Option, Some, None, refl, ap, ◌∙◌}
use Rattle.std.specs.Prelude.{not, ◌==◌, is_some, nat_le}
use Rattle.std.specs.Str.{bytes_eq}
use Rattle.std.proofs.lemmas.Slice.Eq.{bytes_eq-Decides}
use Rattle.ring_core.proofs.TestLaws.{both}
use Rattle.argo_base.specs.declared.errno.Errno.TheVariants.{Exist, NoSpc, Inval}
use Rattle.argo_base.specs.declared.ring_key.RingKey.{RingKey}
use Rattle.argo_model.specs.declared.action.Outcome.TheVariants.{Done}
use Rattle.argo_model.specs.Rules.Effects.{Change, answered, refused, refuse_if}
use Rattle.argo_model.specs.Rules.Limits.{most_rings}
use Rattle.argo_model.specs.Rules.Register.{has_ring, own_ring, are_free_for, register_own, register_allowed, register_new, register_anew, stands_so}
use Rattle.argo_model.specs.Rules.State.{Live, Ring}
use Rattle.paged_live.specs.Registers.{new_if_free, anew_if_free}

module _ (live : Live) (key : RingKey) (len : ℕ) (pages : List ℕ) where
  abbrev rest : Change Live
  rest = anew_if_free live key len pages

  abbrev guarded : Bool → Bool → Bool → Change Live
  guarded stands fail full = refuse_if (stands && fail) Exist (refuse_if (not stands && full) NoSpc rest)

  abbrev full : Bool
  full = nat_le most_rings (length live.rings)

  -- the pages are not free
  pub new_refused : are_free_for live key pages ≡ false → new_if_free live key len pages ≡ refused Inval
  new_refused taken = ap (λ b. refuse_if (not b) Inval (register_new live key len pages)) taken

  pub new_free : are_free_for live key pages ≡ true → new_if_free live key len pages ≡ register_new live key len pages
  new_free free = ap (λ b. refuse_if (not b) Inval (register_new live key len pages)) free

  pub anew_refused : are_free_for live key pages ≡ false → anew_if_free live key len pages ≡ refused Inval
  anew_refused taken = ap (λ b. refuse_if (not b) Inval (register_allowed live key len pages (own_ring live key))) taken

  -- they are, for a ring that stands
  pub anew_is : (r : Ring) (same : Bool) → are_free_for live key pages ≡ true → own_ring live key ≡ Some r → stands_so r len pages ≡ same
      → anew_if_free live key len pages ≡ (if same then answered Done else register_anew live key r len pages)
  anew_is r same free found so =
      ap (λ b. refuse_if (not b) Inval (register_allowed live key len pages (own_ring live key))) free
      ∙ ap (register_allowed live key len pages) found ∙ ap (λ b. if b then answered Done else register_anew live key r len pages) so

  -- a ring stands, and that is a refusal
  pub own_exists : (fail : Bool) → has_ring live key ≡ true → fail ≡ true → register_own live key len pages fail ≡ refused Exist
  own_exists fail stands f = ap (λ s. guarded s fail full) stands ∙ ap (λ b. guarded true b full) f

  -- or is registered anew
  pub own_anew : (fail : Bool) → has_ring live key ≡ true → fail ≡ false → register_own live key len pages fail ≡ anew_if_free live key len pages
  own_anew fail stands f = ap (λ s. guarded s fail full) stands ∙ ap (λ b. guarded true b full) f

  -- no ring stands, and there is no room for one
  pub own_full : (fail : Bool) → has_ring live key ≡ false → nat_le most_rings (length live.rings) ≡ true → register_own live key len pages fail ≡ refused NoSpc
  own_full fail none f = ap (λ s. guarded s fail full) none ∙ ap (λ b. guarded false fail b) f

  -- or there is
  pub own_new : (fail : Bool) → has_ring live key ≡ false → nat_le most_rings (length live.rings) ≡ false → own_ring live key ≡ None
      → register_own live key len pages fail ≡ new_if_free live key len pages
  own_new fail none f absent =
      ap (λ s. guarded s fail full) none ∙ ap (λ b. guarded false fail b) f
      ∙ ap (λ o. refuse_if (not (are_free_for live key pages)) Inval (register_allowed live key len pages o)) absent

pub has_none : (live : Live) (key : RingKey) → has_ring live key ≡ false → own_ring live key ≡ None
has_none live key none = by (own_ring live key) none where
  by : (o : Option Ring) → is_some o ≡ false → o ≡ None
  by None h = refl
  by (Some r) h = cc

-- a ring that stands so stands on those pages
pub stands_pages : (r : Ring) (len : ℕ) (pages : List ℕ) → stands_so r len pages ≡ true → r.pages ≡ pages
stands_pages r len pages so = (bytes_eq-Decides r.pages pages).0 (both (r.clean && (r.len == len)) (bytes_eq r.pages pages) so).1
