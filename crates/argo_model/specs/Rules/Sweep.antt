-- The notices of a ring are looked through, and those that fit are signalled.
use Rattle.std.specs.Prelude.{ℕ, Bool, not, nat_lt, List, [], ◌∷◌, filter, Option, Some, None}
use Rattle.std.specs.List.{best_of}
use Rattle.argo_base.specs.declared.errno.Errno.TheVariants.{NoDev}
use Rattle.argo_base.specs.declared.ring_key.RingKey.{RingKey}
use Rattle.argo_model.specs.declared.action.Outcome.TheVariants.{Swept, NoMore}
use Rattle.argo_model.specs.Rules.State.{State, Domain, Live, Ring}
use Rattle.argo_base.specs.Notices.{fits_now, doms_of}
use Rattle.argo_model.specs.Rules.Effects.{Change, Effect, answered, refuse_if, lifted, change_in}
use Rattle.argo_model.specs.Rules.RingBytes.{PagedRing, paged, set_paged, with_notices, free}

-- the ring with the least serial
abbrev pub least_serial : List (RingKey × Ring) → Option (RingKey × Ring)
least_serial [] = None
least_serial (e ∷ es) = Some (best_of (λ a b. nat_lt a.1.serial b.1.serial) e es)

-- the ring with the least serial above a number
abbrev pub next_ring : ℕ → List (RingKey × Ring) → Option (RingKey × Ring)
next_ring after rings = least_serial (filter (λ e. nat_lt after e.1.serial) rings)

-- a notice whose size does not fit into so many free bytes
abbrev pub waits_on : ℕ → ℕ × ℕ → Bool
waits_on free n = not (fits_now free n)

-- exactly the notices that fit end, and their domains are signalled
abbrev pub sweep_ring : PagedRing → Change PagedRing
sweep_ring p =
    record {
      outcome = Swept p.ring.serial;
      left = Some (with_notices p (filter (waits_on (free p)) p.ring.notices));
      signals = doms_of (filter (fits_now (free p)) p.ring.notices);
    }

abbrev pub sweep_found : Live → Option (RingKey × Ring) → Change Live
sweep_found live None = answered NoMore
sweep_found live (Some e) = lifted (set_paged live e.0) (sweep_ring (paged live.bytes e.1))

-- the caller, which must be on, sweeps the next of its rings after a serial
abbrev pub sweep_own : Domain → Live → ℕ → Change Live
sweep_own x live after = refuse_if (not x.on) NoDev (sweep_found live (next_ring after live.rings))

abbrev pub sweep : State → ℕ → Domain → Live → ℕ → Effect
sweep s d x live after = change_in s d (sweep_own x live after)
