-- Which notices end.
use Rattle.std.specs.Prelude.{ℕ, Bool}
use Rattle.argo_base.specs.Notices.{fits_now, never_fits}
use Rattle.pending_list.specs.declared.ending.Ending.{Ending}
use Rattle.pending_list.specs.declared.ending.Ending.TheVariants.{Fitting, TooBig}

abbrev pub ends : Ending → ℕ × ℕ → Bool
ends (Fitting free) n = fits_now free n
ends (TooBig len) n = never_fits len n
