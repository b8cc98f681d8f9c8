-- How a registration may find the caller's rings.
use Rattle.std.specs.Prelude.{Bool, IsTrue, ⊤}
use Rattle.argo_model.specs.declared.action.Outcome.TheVariants.{Refused as IsRefused}
use Rattle.shared_rings.specs.declared.registration.Standing.{Standing}
use Rattle.shared_rings.specs.declared.registration.Standing.TheVariants.{Refused, Same, Other, None}
use Rattle.shared_rings.specs.Made.{is_registered}

-- it is refused only where a registration may be
abbrev pub MayFind : Bool → Standing → Type 0
MayFind fail_exist (Refused e) = IsTrue (is_registered fail_exist (IsRefused e))
MayFind fail_exist Same = ⊤
MayFind fail_exist Other = ⊤
MayFind fail_exist None = ⊤
