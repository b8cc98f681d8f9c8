-- What a put into a ring's pages does to the ring.
use Rattle.std.specs.Prelude.{ℕ, ◌+◌, ◌*◌, min, max, Bool, false, ◌&&◌, ◌||◌, ◌==◌, nat_lt, if◌then◌else◌, List, [], length, take, drop, sum_by, find, map, position, Option, Some, None, option_and_then, option_map, unwrap_or}
use Rattle.std.specs.List.{range_with_len}
use Rattle.argo_base.specs.declared.message.Message.{Message}
use Rattle.argo_base.specs.Slots.{place_after}
use Rattle.argo_base.specs.Splice.{splice}
use Rattle.argo_base.specs.Layout.{u32_at}
use Rattle.argo_model.specs.Rules.State.{Ring, Live}
use Rattle.argo_model.specs.Rules.Messages.{room_of}
use Rattle.argo_model.specs.Rules.RingBytes.{PagedRing, rx_word, paged}

-- two ranges, each from its first number up to its last, have a number in common
abbrev pub meets : ℕ → ℕ → ℕ → ℕ → Bool
meets from to low high = nat_lt (max from low) (min to high)

-- n bytes from a byte of a ring on touch the rx word, the tx word or a slot byte
abbrev pub touches : ℕ → ℕ → ℕ → Bool
touches len at n = meets at (at + n) 0 8 || meets at (at + n) 64 (64 + len)

-- the place after the first k untaken messages
abbrev pub place_after_first : ℕ → ℕ → List Message → ℕ → ℕ
place_after_first len rx untaken k = place_after len rx (sum_by room_of (take k untaken))

-- how many untaken messages a new value of the rx word takes, where it is a place after the first of them
abbrev pub taken_by : ℕ → ℕ → List Message → ℕ → Option ℕ
taken_by len rx untaken value =
    find (λ k. place_after_first len rx untaken k == value) (range_with_len 0 (length untaken + 1))

-- how many untaken messages a put from a byte of a clean ring on takes, where it is a proper move: one of exactly the four bytes
-- of the rx word
abbrev pub moves : PagedRing → ℕ → List ℕ → Option ℕ
moves p at bytes =
    if p.ring.clean && (at == 0) && (length bytes == 4)
    then taken_by p.ring.len (rx_word p.own) p.ring.untaken (u32_at bytes 0)
    else None

-- a dirty ring keeps no list of untaken messages
abbrev pub dirtied : Ring → Ring
dirtied r = record r { clean = false; untaken = [] }

-- a clean ring after a put of n bytes from a byte of it on: a proper move takes messages off; any other put makes it dirty
-- where it touches a word or a slot
abbrev pub clean_after : Ring → ℕ → ℕ → Option ℕ → Ring
clean_after r at n (Some k) = record r { untaken = drop k r.untaken }
clean_after r at n None = if touches r.len at n then dirtied r else r

-- a ring after these bytes were put from a byte of it on. A dirty ring stays as it is
abbrev pub ring_after_put : PagedRing → ℕ → List ℕ → Ring
ring_after_put p at bytes = if p.ring.clean then clean_after p.ring at (length bytes) (moves p at bytes) else p.ring

-- the byte of a ring at an offset of a page of its owner, where the page is one of the ring's
abbrev pub byte_at : ℕ → ℕ → Ring → Option ℕ
byte_at page off r = option_map (λ place. 4096 * place + off) (position (λ p. p == page) r.pages)

-- a ring of a memory after these bytes were put at an offset of a page of it
abbrev pub after_put : List ℕ → ℕ → ℕ → List ℕ → Ring → Ring
after_put memory page off bytes r = unwrap_or (option_map (λ at. ring_after_put (paged memory r) at bytes) (byte_at page off r)) r

-- how many untaken messages of the ring that put takes, where it is a proper move
abbrev pub move_of : List ℕ → ℕ → ℕ → List ℕ → Ring → Option ℕ
move_of memory page off bytes r = option_and_then (λ at. moves (paged memory r) at bytes) (byte_at page off r)

-- the memory with these bytes at an offset of a page, and each ring as the put leaves it
abbrev pub put_into : Live → ℕ → ℕ → List ℕ → Live
put_into live page off bytes =
    record live {
      bytes = splice live.bytes (4096 * page + off) bytes;
      rings = map (λ e. (e.0, after_put live.bytes page off bytes e.1)) live.rings;
    }
