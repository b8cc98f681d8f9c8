-- Each structure as it is read from its bytes, and its bytes.
use Rattle.std.specs.Prelude.{ℕ, ◌+◌, List, drop}
use Rattle.argo_base.specs.Layout.{u16_at, u32_at, addr_bytes, send_addr_bytes, iov_bytes, register_ring_bytes, unregister_ring_bytes, ring_head_bytes, ring_data_bytes, ring_data_entry_bytes, message_head_bytes}
use Rattle.argo_base.specs.Iovs.{Iov}
use Rattle.argo_abi.specs.declared.addr.Addr.{Addr}
use Rattle.argo_abi.specs.declared.send_addr.SendAddr.{SendAddr}
use Rattle.argo_abi.specs.declared.register_ring.RegisterRing.{RegisterRing}
use Rattle.argo_abi.specs.declared.unregister_ring.UnregisterRing.{UnregisterRing}
use Rattle.argo_abi.specs.declared.ring_head.RingHead.{RingHead}
use Rattle.argo_abi.specs.declared.ring_data.RingData.{RingData}
use Rattle.argo_abi.specs.declared.ring_data_entry.RingDataEntry.{RingDataEntry}
use Rattle.argo_abi.specs.declared.message_head.MessageHead.{MessageHead}

-- the address at an offset
abbrev pub addr_at : List ℕ → ℕ → Addr
addr_at bytes off = record { aport = u32_at bytes off; domain_id = u16_at bytes (off + 4); pad = u16_at bytes (off + 6) }

abbrev pub bytes_of_addr : Addr → List ℕ
bytes_of_addr x = addr_bytes x.aport x.domain_id x.pad

abbrev pub send_addr_of : List ℕ → SendAddr
send_addr_of bytes = record { src = addr_at bytes 0; dst = addr_at bytes 8 }

abbrev pub bytes_of_send_addr : SendAddr → List ℕ
bytes_of_send_addr x = send_addr_bytes (bytes_of_addr x.src) (bytes_of_addr x.dst)

abbrev pub bytes_of_iov : Iov → List ℕ
bytes_of_iov x = iov_bytes x.hnd x.len x.pad

abbrev pub register_ring_of : List ℕ → RegisterRing
register_ring_of bytes =
    record {
      aport = u32_at bytes 0;
      partner_id = u16_at bytes 4;
      pad = u16_at bytes 6;
      len = u32_at bytes 8;
    }

abbrev pub bytes_of_register_ring : RegisterRing → List ℕ
bytes_of_register_ring x = register_ring_bytes x.aport x.partner_id x.pad x.len

abbrev pub unregister_ring_of : List ℕ → UnregisterRing
unregister_ring_of bytes = record { aport = u32_at bytes 0; partner_id = u16_at bytes 4; pad = u16_at bytes 6 }

abbrev pub bytes_of_unregister_ring : UnregisterRing → List ℕ
bytes_of_unregister_ring x = unregister_ring_bytes x.aport x.partner_id x.pad

abbrev pub ring_head_of : List ℕ → RingHead
ring_head_of bytes = record { rx_ptr = u32_at bytes 0; tx_ptr = u32_at bytes 4; reserved = drop 8 bytes }

abbrev pub bytes_of_ring_head : RingHead → List ℕ
bytes_of_ring_head x = ring_head_bytes x.rx_ptr x.tx_ptr x.reserved

abbrev pub ring_data_of : List ℕ → RingData
ring_data_of bytes = record { nent = u32_at bytes 0; pad = u32_at bytes 4 }

abbrev pub bytes_of_ring_data : RingData → List ℕ
bytes_of_ring_data x = ring_data_bytes x.nent x.pad

abbrev pub ring_data_entry_of : List ℕ → RingDataEntry
ring_data_entry_of bytes =
    record {
      ring = addr_at bytes 0;
      flags = u16_at bytes 8;
      pad = u16_at bytes 10;
      space_required = u32_at bytes 12;
      max_message_size = u32_at bytes 16;
    }

abbrev pub bytes_of_ring_data_entry : RingDataEntry → List ℕ
bytes_of_ring_data_entry x = ring_data_entry_bytes (bytes_of_addr x.ring) x.flags x.pad x.space_required x.max_message_size

abbrev pub message_head_of : List ℕ → MessageHead
message_head_of bytes = record { len = u32_at bytes 0; source = addr_at bytes 4; message_type = u32_at bytes 12 }

abbrev pub bytes_of_message_head : MessageHead → List ℕ
bytes_of_message_head x = message_head_bytes x.len (bytes_of_addr x.source) x.message_type
