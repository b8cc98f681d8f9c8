-- What else holds of every ring that stands, of its name in a run, and which rings start clean.
use Rattle.std.specs.Prelude.{◌≡◌, ℕ, ◌+◌, ◌≤◌, ◌↔◌, true, IsTrue, List, ◌++◌, length, Option, Some, None}
use Rattle.argo_base.specs.Slots.{is_legal}
use Rattle.argo_model.specs.Laws.RingNames.{RingName, standing}
use Rattle.argo_model.specs.Rules.Matches.{RingAt}
use Rattle.argo_model.specs.Rules.RingBytes.{PagedRing, rx_word, tx_word}
use Rattle.argo_model.specs.Rules.Starts.{started}
use Rattle.argo_model.specs.Rules.State.{State, is_alive}
use Rattle.argo_model.specs.Runs.Run.{run}
use Rattle.argo_model.specs.Runs.Script.{Script}
use Rattle.state_laws.specs.Valid.{IsLive, IsRing}

-- what its owner has is as it should be: at most 128 rings, of which every two differ in key and serial and have no page in common;
-- and so is the ring: its pages are there and differ, and it has at most 32 notices, one a domain, each of a living domain that is
-- the ring's partner unless the ring is for every domain
pub record StandsWell (s : State) (at : RingAt) : Type 0 where
  pub owner : IsLive (is_alive s) at.live
  pub ring : IsRing (is_alive s) at.live.bytes (at.key, at.ring)

-- the ring of a name after these steps of a script, where one stands
abbrev pub standing_after : Script → List ℕ → RingName → Option RingAt
standing_after s steps name = standing (run s steps).state name

-- a name in a run that goes on: where a ring of the name stood after some steps and none stands after more of them, none ever stands
-- again; and while the name stands it has one key, so that it is that of one ring
pub record NameIsOnce (s : Script) (steps more rest : List ℕ) (name : RingName) : Type 0 where
  pub never_again : (at : RingAt) → standing_after s steps name ≡ Some at → standing_after s (steps ++ more) name ≡ None
      → standing_after s (steps ++ more ++ rest) name ≡ None
  pub same_key : (first last : RingAt) → standing_after s steps name ≡ Some first → standing_after s (steps ++ more) name ≡ Some last
      → last.key ≡ first.key

-- a ring of a legal length that starts is clean exactly where its two index words are then equal
abbrev pub StartsCleanWhereEqual : Type 0
StartsCleanWhereEqual =
    (p : PagedRing) → IsTrue (is_legal p.ring.len) → 64 + p.ring.len ≤ length p.own
    → ((started p).ring.clean ≡ true) ↔ (rx_word (started p).own ≡ tx_word (started p).own)
