-- The worked examples of starts and of a guest's puts, each computed.
use Rattle.std.proofs.Common.{refl}
use Rattle.argo_model.specs.Examples.Puts.{Starts, StartsInMemory, RxWords, GuestPuts, Touches, ProperMoves}

pub starts : Starts
starts =
    record {
      zeros = refl;
      zeros_clean = refl;
      equal_places = refl;
      equal_places_clean = refl;
      other_places = refl;
      other_places_dirty = refl;
      odd_tx = refl;
      odd_tx_clean = refl;
      tx_at_length = refl;
      odd_words = refl;
      odd_words_dirty = refl;
      large_rx = refl;
      large_rx_dirty = refl;
    }

pub starts_in_memory : StartsInMemory
starts_in_memory =
    record {
      on_zeros = refl;
      zeros_stay = refl;
      after_others = refl;
      on_odd_tx = refl;
      tx_written = refl;
    }

pub rx_words : RxWords
rx_words =
    record {
      all_ones = refl;
      all_ones_span = refl;
      rounded_up = refl;
      rounded_up_span = refl;
      inside = refl;
      inside_span = refl;
      at_length = refl;
      at_length_span = refl;
      equal = refl;
      none_of_32 = refl;
      empty_in_32 = refl;
      most_of_64 = refl;
      past_64 = refl;
      most_of_80 = refl;
      past_80 = refl;
    }

pub guest_puts : GuestPuts
guest_puts =
    record {
      spare_byte = refl;
      move_by_nothing = refl;
      half_of_rx_word = refl;
      both_words = refl;
      tx_word = refl;
      spare_and_slot_byte = refl;
      last_slot_byte = refl;
      past_the_slots = refl;
      across_the_page_end = refl;
      in_the_page_before = refl;
    }

pub touches : Touches
touches =
    record {
      words = refl;
      spare = refl;
      first_slot = refl;
      last_slot = refl;
      past_slots = refl;
    }

pub proper_moves : ProperMoves
proper_moves =
    record {
      none = refl;
      first = refl;
      both = refl;
      inside = refl;
      past_length = refl;
      two_bytes = refl;
      eight_bytes = refl;
      tx_word = refl;
      first_leaves = refl;
      both_leaves = refl;
      inside_leaves = refl;
    }
