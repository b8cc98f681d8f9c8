-- Worked examples of starts of rings, and of what a guest's puts into a ring's page do to it.
use Rattle.std.specs.Prelude.{◌≡◌, ℕ, true, false, List, [], ◌∷◌, ◌++◌, replicate, Option, Some, None}
use Rattle.argo_base.specs.declared.message.Message.{Message}
use Rattle.argo_base.specs.Slots.{sanitised, span, fits}
use Rattle.argo_base.specs.Layout.{u16_bytes, u32_bytes}
use Rattle.argo_base.specs.Pieces.{pieces}
use Rattle.argo_model.specs.Rules.RingBytes.{PagedRing, paged, laid}
use Rattle.argo_model.specs.Rules.Starts.{start_place, starts_clean, started}
use Rattle.argo_model.specs.Rules.Puts.{touches, moves, dirtied, after_put}
use Rattle.argo_model.specs.Rules.State.{Ring}

-- a ring of 96 slot bytes on page 1, with serial 1, without notices
abbrev pub ring : (tx : ℕ) → List Message → Ring
ring tx untaken = record { serial = 1; len = 96; pages = 1 ∷ []; tx = tx; clean = true; untaken = untaken; notices = [] }

-- two pages, of which the second begins with these two words
abbrev pub memory : (rx tx : ℕ) → List ℕ
memory rx tx = replicate 4096 0 ++ (u32_bytes rx ++ (u32_bytes tx ++ replicate 4088 0))

-- where the hypervisor goes on in a ring of 96 that starts with some words, and whether it starts clean
pub record Starts : Type 0 where
  pub zeros : start_place 96 0 0 ≡ 0
  pub zeros_clean : starts_clean 96 0 0 ≡ true
  pub equal_places : start_place 96 32 32 ≡ 32
  pub equal_places_clean : starts_clean 96 32 32 ≡ true
  pub other_places : start_place 96 0 64 ≡ 64
  pub other_places_dirty : starts_clean 96 0 64 ≡ false
  pub odd_tx : start_place 96 32 11 ≡ 32
  pub odd_tx_clean : starts_clean 96 32 11 ≡ true
  pub tx_at_length : start_place 96 48 96 ≡ 48
  pub odd_words : start_place 96 17 11 ≡ 32
  pub odd_words_dirty : starts_clean 96 17 11 ≡ false
  pub large_rx : start_place 96 0xffffffff 96 ≡ 0
  pub large_rx_dirty : starts_clean 96 0xffffffff 96 ≡ false

-- a ring that starts in its owner's memory, and that memory then
abbrev pub started_on : List ℕ → Ring → PagedRing
started_on memory r = started (paged memory r)

abbrev pub memory_after_start : List ℕ → Ring → List ℕ
memory_after_start memory r = laid r.pages (started_on memory r).own memory

-- a start in a memory: on zeros the ring is clean and empty, and nothing is written; a tx word that is no place is written anew
pub record StartsInMemory : Type 0 where
  pub on_zeros : (started_on (memory 0 0) (ring 64 [])).ring ≡ ring 0 []
  pub zeros_stay : memory_after_start (memory 0 0) (ring 64 []) ≡ memory 0 0
  pub after_others : (started_on (memory 0 64) (ring 0 [])).ring ≡ record (ring 64 []) { clean = false }
  pub on_odd_tx : (started_on (memory 32 11) (ring 0 [])).ring ≡ ring 32 []
  pub tx_written : memory_after_start (memory 32 11) (ring 0 []) ≡ memory 32 32

-- the rx word is rounded up to a place, and to place 0 where that is not below the length; so is the free space counted, with
-- tx at 64: the largest body that fits, and the next
pub record RxWords : Type 0 where
  pub all_ones : sanitised 96 0xffffffff ≡ 0
  pub all_ones_span : span 96 0xffffffff 64 ≡ 32
  pub rounded_up : sanitised 96 17 ≡ 32
  pub rounded_up_span : span 96 17 64 ≡ 64
  pub inside : sanitised 96 48 ≡ 48
  pub inside_span : span 96 48 64 ≡ 80
  pub at_length : sanitised 96 96 ≡ 0
  pub at_length_span : span 96 96 64 ≡ 32
  pub equal : span 96 64 64 ≡ 96
  pub none_of_32 : fits 32 1 ≡ false
  pub empty_in_32 : fits 32 0 ≡ true
  pub most_of_64 : fits 64 32 ≡ true
  pub past_64 : fits 64 33 ≡ false
  pub most_of_80 : fits 80 48 ≡ true
  pub past_80 : fits 80 49 ≡ false

-- the clean and empty ring of 96 after bytes are put at an offset of its page
abbrev pub after : ℕ → List ℕ → Ring
after off bytes = after_put (memory 0 0) 1 off bytes (ring 0 [])

-- what a put leaves of it. The last bytes of a store that crosses into the page are a put of their own
pub record GuestPuts : Type 0 where
  pub spare_byte : after 8 (1 ∷ []) ≡ ring 0 []
  pub move_by_nothing : after 0 (u32_bytes 0) ≡ ring 0 []
  pub half_of_rx_word : after 0 (u16_bytes 0) ≡ dirtied (ring 0 [])
  pub both_words : after 0 (replicate 8 0) ≡ dirtied (ring 0 [])
  pub tx_word : after 4 (u32_bytes 80) ≡ dirtied (ring 0 [])
  pub spare_and_slot_byte : after 63 (0 ∷ 0 ∷ []) ≡ dirtied (ring 0 [])
  pub last_slot_byte : after 159 (0 ∷ []) ≡ dirtied (ring 0 [])
  pub past_the_slots : after 160 (1 ∷ []) ≡ ring 0 []
  pub across_the_page_end : pieces 0xffe 4 ≡ record { page = 0; off = 0xffe; n = 2 } ∷ record { page = 1; off = 0; n = 2 } ∷ []
  pub in_the_page_before : after_put (memory 0 0) 0 0xffe (u16_bytes 0) (ring 0 []) ≡ ring 0 []

-- the bytes of a ring of 96 that count: its two words and its slots
pub record Touches : Type 0 where
  pub words : touches 96 7 1 ≡ true
  pub spare : touches 96 8 56 ≡ false
  pub first_slot : touches 96 63 2 ≡ true
  pub last_slot : touches 96 159 1 ≡ true
  pub past_slots : touches 96 160 3936 ≡ false

-- a message with a body of so many zeros
abbrev pub message_of : ℕ → Message
message_of n = record { src = 2; port = 9; kind = 7; body = replicate n 0 }

-- a ring of 96 with bodies of 16 and 20 untaken, and its rx word at 64: they stand at 64 and at 0, and tx is 48
abbrev pub two_untaken : Ring
two_untaken = ring 48 (message_of 16 ∷ message_of 20 ∷ [])

-- how many of the two a put at a byte of that ring takes
abbrev pub takes : ℕ → List ℕ → Option ℕ
takes at bytes = moves (paged (memory 64 48) two_untaken) at bytes

-- the rx word may move to the place after some of them; any other value, place or size of a put is no proper move
pub record ProperMoves : Type 0 where
  pub none : takes 0 (u32_bytes 64) ≡ Some 0
  pub first : takes 0 (u32_bytes 0) ≡ Some 1
  pub both : takes 0 (u32_bytes 48) ≡ Some 2
  pub inside : takes 0 (u32_bytes 16) ≡ None
  pub past_length : takes 0 (u32_bytes 96) ≡ None
  pub two_bytes : takes 0 (u16_bytes 0) ≡ None
  pub eight_bytes : takes 0 (u32_bytes 0 ++ u32_bytes 48) ≡ None
  pub tx_word : takes 4 (u32_bytes 48) ≡ None
  pub first_leaves : after_put (memory 64 48) 1 0 (u32_bytes 0) two_untaken ≡ ring 48 (message_of 20 ∷ [])
  pub both_leaves : after_put (memory 64 48) 1 0 (u32_bytes 48) two_untaken ≡ ring 48 []
  pub inside_leaves : after_put (memory 64 48) 1 0 (u32_bytes 16) two_untaken ≡ dirtied two_untaken
