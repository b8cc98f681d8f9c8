-- Each structure read and laid out again gives its bytes back.
use Rattle.std.proofs.Common.{◌≡◌, ℕ, ◌+◌, ◌≤◌, List, [], ◌++◌, length, drop, refl, sym, arith}
use Rattle.std.proofs.lemmas.List.{drop_all}
use Rattle.argo_base.specs.Iovs.{iov_at}
use Rattle.argo_abi.specs.Structures.{addr_at, bytes_of_addr, send_addr_of, bytes_of_send_addr, bytes_of_iov, register_ring_of, bytes_of_register_ring, unregister_ring_of, bytes_of_unregister_ring, ring_head_of, bytes_of_ring_head, ring_data_of, bytes_of_ring_data, ring_data_entry_of, bytes_of_ring_data_entry, message_head_of, bytes_of_message_head}
use Rattle.argo_abi.proofs.FieldLaws.{AreBytes, u16_next, u32_next, u64_next}

addr_next : (bytes : List ℕ) (off next : ℕ) (rest : List ℕ) → AreBytes bytes → next ≡ off + 8 → next ≤ length bytes → rest ≡ drop next bytes
    → bytes_of_addr (addr_at bytes off) ++ rest ≡ drop off bytes
addr_next bytes off next rest are ends inside is =
    u32_next bytes off (off + 4) _ are refl (omega arith)
    (u16_next bytes (off + 4) (off + 6) _ are (omega arith) (omega arith) (u16_next bytes (off + 6) next rest are (omega arith) inside is))

module _ (bytes : List ℕ) (are : AreBytes bytes) where
  over : (n : ℕ) → length bytes ≡ n → [] ≡ drop n bytes
  over n long = sym (drop_all n bytes (omega arith))

  pub addr_back : length bytes ≡ 8 → bytes_of_addr (addr_at bytes 0) ≡ bytes
  addr_back long = addr_next bytes 0 8 [] are refl (omega arith) (over 8 long)

  pub send_addr_back : length bytes ≡ 16 → bytes_of_send_addr (send_addr_of bytes) ≡ bytes
  send_addr_back long = addr_next bytes 0 8 _ are refl (omega arith) (addr_next bytes 8 16 [] are refl (omega arith) (over 16 long))

  pub iov_back : length bytes ≡ 16 → bytes_of_iov (iov_at bytes 0) ≡ bytes
  iov_back long =
      u64_next bytes 0 8 _ are refl (omega arith)
      (u32_next bytes 8 12 _ are refl (omega arith) (u32_next bytes 12 16 [] are refl (omega arith) (over 16 long)))

  pub unregister_ring_back : length bytes ≡ 8 → bytes_of_unregister_ring (unregister_ring_of bytes) ≡ bytes
  unregister_ring_back long =
      u32_next bytes 0 4 _ are refl (omega arith)
      (u16_next bytes 4 6 _ are refl (omega arith) (u16_next bytes 6 8 [] are refl (omega arith) (over 8 long)))

  pub register_ring_back : length bytes ≡ 12 → bytes_of_register_ring (register_ring_of bytes) ≡ bytes
  register_ring_back long =
      u32_next bytes 0 4 _ are refl (omega arith)
      (u16_next bytes 4 6 _ are refl (omega arith)
      (u16_next bytes 6 8 _ are refl (omega arith) (u32_next bytes 8 12 [] are refl (omega arith) (over 12 long))))

  pub ring_head_back : length bytes ≡ 64 → bytes_of_ring_head (ring_head_of bytes) ≡ bytes
  ring_head_back long = u32_next bytes 0 4 _ are refl (omega arith) (u32_next bytes 4 8 _ are refl (omega arith) refl)

  pub ring_data_back : length bytes ≡ 8 → bytes_of_ring_data (ring_data_of bytes) ≡ bytes
  ring_data_back long = u32_next bytes 0 4 _ are refl (omega arith) (u32_next bytes 4 8 [] are refl (omega arith) (over 8 long))

  pub ring_data_entry_back : length bytes ≡ 20 → bytes_of_ring_data_entry (ring_data_entry_of bytes) ≡ bytes
  ring_data_entry_back long =
      addr_next bytes 0 8 _ are refl (omega arith)
      (u16_next bytes 8 10 _ are refl (omega arith)
      (u16_next bytes 10 12 _ are refl (omega arith)
      (u32_next bytes 12 16 _ are refl (omega arith) (u32_next bytes 16 20 [] are refl (omega arith) (over 20 long)))))

  pub message_head_back : length bytes ≡ 16 → bytes_of_message_head (message_head_of bytes) ≡ bytes
  message_head_back long =
      u32_next bytes 0 4 _ are refl (omega arith)
      (addr_next bytes 4 12 _ are refl (omega arith) (u32_next bytes 12 16 [] are refl (omega arith) (over 16 long)))
