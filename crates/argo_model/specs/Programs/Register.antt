-- The hypercalls register_ring and unregister_ring.
use Rattle.std.specs.Prelude.{ℕ, ◌*◌, Bool, ◌&&◌, ◌||◌, not, ◌==◌, nat_lt, List}
use Rattle.argo_base.specs.declared.errno.Errno.TheVariants.{Inval}
use Rattle.argo_base.specs.Slots.{is_legal, page_count}
use Rattle.argo_base.specs.Layout.{u16_at, u32_at, numbers_at}
use Rattle.argo_model.specs.declared.action.Action.TheVariants.{Register, Unregister}
use Rattle.argo_model.specs.Programs.Asks.{Rests, ask, read, refuse_if, refuse_at_once_if, say_done}

-- the ring is registered on the pages of the list
abbrev pub register_pages : ℕ → ℕ → List ℕ → List ℕ → Rests
register_pages a3 a4 head list os =
    ask (Register (u32_at head 0) (u16_at head 4) (u32_at head 8) (numbers_at list a3) (a4 == 1)) say_done os

-- the structure has pad 0 and a legal length, of which A3 is the count of pages
abbrev pub is_register_head : ℕ → List ℕ → Bool
is_register_head a3 head = (u16_at head 6 == 0) && is_legal (u32_at head 8) && (a3 == page_count (u32_at head 8))

-- then the page list at A2 is read: A3 numbers of 8 bytes
abbrev pub register_head : ℕ → ℕ → ℕ → List ℕ → Rests
register_head a2 a3 a4 head os =
    refuse_if (not (is_register_head a3 head)) Inval (λ os. read a2 (8 * a3) (register_pages a3 a4 head) os) os

-- register_ring: A4 is 0 or FAIL_EXIST, which is 1, and the structure at A1 is read
abbrev pub register_ring : ℕ → ℕ → ℕ → ℕ → Rests
register_ring a1 a2 a3 a4 os =
    refuse_at_once_if (nat_lt 1 a4) Inval (λ os. read a1 12 (register_head a2 a3 a4) os) os

-- the structure has pad 0, and the ring is taken away
abbrev pub unregister_head : List ℕ → Rests
unregister_head head os =
    refuse_if (not (u16_at head 6 == 0)) Inval (λ os. ask (Unregister (u32_at head 0) (u16_at head 4)) say_done os) os

-- an argument is given that the command does not take
abbrev pub has_more : ℕ → ℕ → ℕ → Bool
has_more a2 a3 a4 = not (a2 == 0) || not (a3 == 0) || not (a4 == 0)

-- unregister_ring: it takes A1 alone, and the structure there is read
abbrev pub unregister_ring : ℕ → ℕ → ℕ → ℕ → Rests
unregister_ring a1 a2 a3 a4 os =
    refuse_at_once_if (has_more a2 a3 a4) Inval (λ os. read a1 8 unregister_head os) os
