-- How a ring starts on its pages, in the memory of its owner.
use Rattle.std.specs.Prelude.{ℕ, ◌+◌, ◌*◌, if◌then◌else◌, List, slice_index}
use Rattle.argo_base.specs.Layout.{u32_bytes}
use Rattle.argo_base.specs.Slots.{is_place}
use Rattle.argo_base.specs.Splice.{splice}
use Rattle.argo_model.specs.Rules.RingBytes.{ring_bytes, rx_word, tx_word}
use Rattle.argo_model.specs.Rules.Starts.{start_place, starts_clean}
use Rattle.flat_live.specs.declared.starts.Start.{Start}

-- where the ring starts, whether it is clean, and whether its tx word says so already
abbrev pub start_in : ℕ → List ℕ → ℕ → Start
start_in len own page =
    record {
      page = page;
      tx = start_place len (rx_word own) (tx_word own);
      clean = starts_clean len (rx_word own) (tx_word own);
      kept = is_place len (tx_word own);
    }

abbrev pub start_on : List ℕ → ℕ → List ℕ → Start
start_on memory len pages = start_in len (ring_bytes memory pages) (slice_index pages 0)

-- the memory after the start: a tx word that is no place of the ring is written anew
abbrev pub memory_with_start : List ℕ → Start → List ℕ
memory_with_start memory s = if s.kept then memory else splice memory (4096 * s.page + 4) (u32_bytes s.tx)
