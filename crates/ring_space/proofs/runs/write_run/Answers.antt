use Rattle.std.proofs.Common.{◌≡◌, ◌+◌, ◌≤◌, length, ap, ◌∙◌, arith}
use Rattle.argo_base.proofs.SlotLaws.{page_count_holds, place}
use Rattle.guest_pages.specs.Rows.{row_bytes}
use Rattle.guest_pages.proofs.FlatLaws.{length-row_bytes}
use Rattle.argo_base.specs.SlotBytes.{slots, write_slots}
use Rattle.ring_space.proofs.RunLaws.{slots-write_slots, written_run}
use Rattle.ring_space.proofs.runs.write_run.Goals as goal

pub returns-clause-bytes : goal.returns-clause-bytes
returns-clause-bytes c =
    written_run (row_bytes c.args.row.now) (row_bytes c.write_bytes.new.row) (row_bytes c.write_bytes-2.new.row) c.args.len c.args.at
    c.min-to_end.result c.args.bytes.now c.split_at.result.0.now c.split_at.result.1.now c.min-to_end.ensures c.split_at.ensures.front
    c.split_at.ensures.back c.write_bytes.ensures.bytes c.write_bytes-2.ensures.bytes

pub returns-clause-slots : goal.returns-clause-slots
returns-clause-slots c =
    let so : row_bytes c.write_bytes-2.new.row ≡ write_slots c.args.len c.args.at c.args.bytes.now (row_bytes c.args.row.now) =
    written_run (row_bytes c.args.row.now) (row_bytes c.write_bytes.new.row) (row_bytes c.write_bytes-2.new.row) c.args.len c.args.at
    c.min-to_end.result c.args.bytes.now c.split_at.result.0.now c.split_at.result.1.now c.min-to_end.ensures c.split_at.ensures.front
    c.split_at.ensures.back c.write_bytes.ensures.bytes c.write_bytes-2.ensures.bytes in
    let below = (place c.args.len c.args.at c.requires.place).below in
    let long = length-row_bytes c.args.row.now c.count.ensures.whole in
    let inside : 64 + c.args.len ≤ length (row_bytes c.args.row.now) = omega (arith, page_count_holds c.args.len) in
    ap (slots c.args.len) so
    ∙ slots-write_slots (row_bytes c.args.row.now) c.args.len c.args.at c.args.bytes.now inside below c.requires.short
