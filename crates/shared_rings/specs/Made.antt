-- What a registration comes to.
use Rattle.std.specs.Prelude.{ℕ, Bool, ◌&&◌, ◌||◌, List, [], ◌∷◌}
use Rattle.argo_base.specs.declared.errno.Errno.TheVariants.{Exist, Inval, NoSpc}
use Rattle.argo_model.specs.declared.action.Outcome.{Outcome}
use Rattle.argo_model.specs.declared.action.Outcome.TheVariants.{Done}
use Rattle.argo_board.specs.declared.entry.FlagChange.{FlagChange}
use Rattle.argo_board.specs.declared.entry.FlagChange.TheVariants.{Keep, Raise}
use Rattle.argo_model.specs.Rules.Outcomes.{is_done_unless, is_refused}

-- a ring is made or starts anew, or its pages are refused
abbrev pub is_made : Outcome → Bool
is_made o = is_done_unless (Inval ∷ []) o

-- a registration makes its ring, or starts it anew, or is refused: for its pages, for want of a place, or since the ring stands, where
-- it asked for that
abbrev pub is_registered : Bool → Outcome → Bool
is_registered fail_exist o = is_done_unless (Inval ∷ NoSpc ∷ []) o || (fail_exist && is_refused (Exist ∷ []) o)

-- those whose notices ended are signalled, where a ring starts anew
abbrev pub signals_of : Outcome → List ℕ → FlagChange
signals_of Done ended = Raise ended
signals_of o ended = Keep
