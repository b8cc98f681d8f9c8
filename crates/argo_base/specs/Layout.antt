-- The structures of Xen's public header argo.h as lists of bytes: little-endian fields in their order, without gaps.
use Rattle.std.specs.Prelude.{ℕ, ◌*◌, List, ◌++◌, drop, map}
use Rattle.std.specs.Int.{w16, w32, w64, to_le_bytes, from_le_bytes}
use Rattle.std.specs.List.{range_with_len}

-- a field of 2, 4 or 8 bytes with this value
abbrev pub u16_bytes : ℕ → List ℕ
u16_bytes n = to_le_bytes w16 n

abbrev pub u32_bytes : ℕ → List ℕ
u32_bytes n = to_le_bytes w32 n

abbrev pub u64_bytes : ℕ → List ℕ
u64_bytes n = to_le_bytes w64 n

-- the value of the field of 2, 4 or 8 bytes at an offset; bytes that are not there count as zeros
abbrev pub u16_at : List ℕ → ℕ → ℕ
u16_at bytes off = from_le_bytes w16 (drop off bytes)

abbrev pub u32_at : List ℕ → ℕ → ℕ
u32_at bytes off = from_le_bytes w32 (drop off bytes)

abbrev pub u64_at : List ℕ → ℕ → ℕ
u64_at bytes off = from_le_bytes w64 (drop off bytes)

-- xen_argo_addr: 8 bytes
abbrev pub addr_bytes : (aport domain_id pad : ℕ) → List ℕ
addr_bytes aport domain_id pad = u32_bytes aport ++ (u16_bytes domain_id ++ u16_bytes pad)

-- xen_argo_send_addr: two addresses, 16 bytes
abbrev pub send_addr_bytes : (src dst : List ℕ) → List ℕ
send_addr_bytes src dst = src ++ dst

-- xen_argo_iov: 16 bytes; `hnd` is a guest address
abbrev pub iov_bytes : (hnd len pad : ℕ) → List ℕ
iov_bytes hnd len pad = u64_bytes hnd ++ (u32_bytes len ++ u32_bytes pad)

-- xen_argo_register_ring: 12 bytes
abbrev pub register_ring_bytes : (aport partner_id pad len : ℕ) → List ℕ
register_ring_bytes aport partner_id pad len = u32_bytes aport ++ (u16_bytes partner_id ++ (u16_bytes pad ++ u32_bytes len))

-- xen_argo_unregister_ring: 8 bytes
abbrev pub unregister_ring_bytes : (aport partner_id pad : ℕ) → List ℕ
unregister_ring_bytes aport partner_id pad = u32_bytes aport ++ (u16_bytes partner_id ++ u16_bytes pad)

-- xen_argo_ring: the 64 bytes at a ring's head, of which 56 are reserved
abbrev pub ring_head_bytes : (rx_ptr tx_ptr : ℕ) → (reserved : List ℕ) → List ℕ
ring_head_bytes rx_ptr tx_ptr reserved = u32_bytes rx_ptr ++ (u32_bytes tx_ptr ++ reserved)

-- xen_argo_ring_data: 8 bytes, before its entries
abbrev pub ring_data_bytes : (nent pad : ℕ) → List ℕ
ring_data_bytes nent pad = u32_bytes nent ++ u32_bytes pad

-- the 12 bytes of an entry that notify answers in
abbrev pub answer_bytes : (flags pad space_required max_message_size : ℕ) → List ℕ
answer_bytes flags pad space_required max_message_size = u16_bytes flags ++ (u16_bytes pad ++ (u32_bytes space_required ++ u32_bytes max_message_size))

-- xen_argo_ring_data_ent: 20 bytes, an address and an answer
abbrev pub ring_data_entry_bytes : (ring : List ℕ) → (flags pad space_required max_message_size : ℕ) → List ℕ
ring_data_entry_bytes ring flags pad space_required max_message_size = ring ++ answer_bytes flags pad space_required max_message_size

-- xen_argo_ring_message_header: 16 bytes; `len` counts them too
abbrev pub message_head_bytes : (len : ℕ) → (source : List ℕ) → (message_type : ℕ) → List ℕ
message_head_bytes len source message_type = u32_bytes len ++ (source ++ u32_bytes message_type)

-- a row of so many 64-bit page numbers
abbrev pub numbers_at : List ℕ → ℕ → List ℕ
numbers_at bytes count = map (λ i. u64_at bytes (8 * i)) (range_with_len 0 count)
