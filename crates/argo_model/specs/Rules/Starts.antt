-- How a ring starts on its pages: when it is registered, and when it is registered anew.
use Rattle.std.specs.Prelude.{ℕ, ◌&&◌, ◌==◌, Bool, if◌then◌else◌, List, []}
use Rattle.argo_base.specs.Slots.{is_place, sanitised}
use Rattle.argo_model.specs.Rules.State.{Ring}
use Rattle.argo_model.specs.Rules.RingBytes.{PagedRing, rx_word, tx_word, write_tx}

-- the hypervisor goes on at the tx word, if that is a place of the ring, and else at the place that the rx word counts as
abbrev pub start_place : ℕ → ℕ → ℕ → ℕ
start_place len rx tx = if is_place len tx then tx else sanitised len rx

-- a ring starts clean exactly where its rx word is a place of it, the one at which the hypervisor goes on
abbrev pub starts_clean : ℕ → ℕ → ℕ → Bool
starts_clean len rx tx = is_place len rx && (rx == start_place len rx tx)

-- the ring after its start: it has no untaken messages, and keeps its serial, length, pages and notices
abbrev pub started_ring : List ℕ → Ring → Ring
started_ring own r =
    record r {
      tx = start_place r.len (rx_word own) (tx_word own);
      clean = starts_clean r.len (rx_word own) (tx_word own);
      untaken = [];
    }

-- its bytes after its start: a tx word that is no place of the ring is written anew
abbrev pub bytes_after_start : List ℕ → Ring → List ℕ
bytes_after_start own r = if is_place r.len (tx_word own) then own else write_tx (started_ring own r).tx own

abbrev pub started : PagedRing → PagedRing
started p = record { ring = started_ring p.own p.ring; own = bytes_after_start p.own p.ring }
