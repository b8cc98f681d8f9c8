use Rattle.std.proofs.Common.{◌≡◌, ◌+◌, ◌-◌, ◌≤◌, ◌++◌, length, take, drop, ap, ◌∙◌, arith}
use Rattle.argo_base.proofs.SlotLaws.{page_count_holds, place}
use Rattle.guest_pages.specs.Rows.{row_bytes}
use Rattle.guest_pages.proofs.FlatLaws.{length-row_bytes}
use Rattle.ring_space.proofs.RunLaws.{read_round}
use Rattle.ring_space.proofs.runs.read_run.Goals as goal

pub returns : goal.returns
returns c =
    let own = row_bytes c.args.row.now in
    let below = (place c.args.len c.args.at c.requires.place).below in
    let long = length-row_bytes c.args.row.now c.count.ensures.whole in
    let inside : 64 + c.args.len ≤ length own = omega (arith, page_count_holds c.args.len) in
    let front : length c.split_at_mut-first.result.0.now ≡ c.min-to_end.result = c.split_at_mut-first.ensures.front_len in
    let back : length c.split_at_mut-first.result.1.now ≡ length c.args.buf.now - c.min-to_end.result = omega (arith, c.split_at_mut-first.ensures.back_len) in
    ap (λ x. x ++ c.read_bytes-2.new.buf) (c.read_bytes.ensures ∙ ap (λ k. take k (drop (64 + c.args.at) own)) front)
    ∙ ap (λ x. take c.min-to_end.result (drop (64 + c.args.at) own) ++ x) (c.read_bytes-2.ensures ∙ ap (λ k. take k (drop 64 own)) back)
    ∙ read_round own c.args.len c.args.at (length c.args.buf.now) c.min-to_end.result c.min-to_end.ensures inside below c.requires.short
