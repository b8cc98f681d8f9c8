use Rattle.std.proofs.Common.{IsTrue, refl, sym, ◌∙◌, subst}
use Rattle.std.specs.List.{list_all}
use Rattle.argo_model.specs.Rules.Register.{can_fit}
use Rattle.argo_model.specs.Rules.RingBytes.{rx_word, tx_word}
use Rattle.guest_pages.specs.Rows.{row_bytes}
use Rattle.ring_space.proofs.RunLaws.{count_stays}
use Rattle.ring_core.proofs.RingLaws.{start_leaves_clean, start_leaves_place}
use Rattle.ring_core.proofs.ring.Ring.new.Goals as goal

pub invariant_of-result : goal.invariant_of-result
invariant_of-result c =
    let len = c.args.len in
    let row = c.args.row in
    let new = c.on-start.new.row in
    let tx = c.on-start.result.tx in
    let e = c.on-start.ensures in
    record {
      legal = c.requires.legal;
      counted = count_stays row new e.numbers ∙ c.requires.pages;
      place = start_leaves_place len tx (rx_word (row_bytes row)) (tx_word (row_bytes row)) c.requires.legal e.tx;
      able = subst (λ ns. IsTrue (list_all (can_fit len) ns)) (sym c.new-2.ensures) refl;
      clean =
          start_leaves_clean len tx row (row_bytes new) c.on-start.result.clean c.new.result.messages c.requires.legal c.requires.pages e.whole
          e.tx e.clean e.bytes c.new.ensures;
      dirty = λ _. c.new.ensures;
    }
