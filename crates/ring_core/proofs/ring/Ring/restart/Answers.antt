use Rattle.std.proofs.Common.{◌≡◌, IsTrue, length, sym, ap, ◌∙◌, subst}
use Rattle.std.specs.List.{list_all}
use Rattle.argo_base.specs.Slots.{page_count}
use Rattle.argo_model.specs.Rules.Register.{can_fit, resized}
use Rattle.argo_model.specs.Rules.RingBytes.{rx_word, tx_word}
use Rattle.argo_model.specs.Rules.Starts.{started}
use Rattle.guest_pages.specs.Pages.{row_of, with_row}
use Rattle.guest_pages.specs.Rows.{row_bytes, numbers_of}
use Rattle.ring_space.proofs.RunLaws.{count_stays}
use Rattle.ring_core.specs.Held.{Held, paged}
use Rattle.ring_core.specs.Restarts.{given_back, lent_bytes, restarted}
use Rattle.ring_core.proofs.NoticeLaws.{all_left}
use Rattle.ring_core.proofs.RingLaws.{start_leaves_clean, start_leaves_place, start_bytes, numbers_of-row_of, length-row_of, made, same_made}
use Rattle.ring_core.proofs.ring.Ring.restart.Goals as goal

pub invariant_of-self-2 : goal.invariant_of-self-2
invariant_of-self-2 c =
    let len = c.args.len in
    let row = c.exchange.new.row in
    let new = c.on-start.new.row in
    let tx = c.on-start.result.tx in
    let e = c.on-start.ensures in
    let counted : length row ≡ page_count len =
    ap length c.in_ok-exchange.ensures.row ∙ length-row_of (with_row c.args.private.now c.self.inside.row) c.args.numbers.now ∙ c.requires.counted in
    record {
      legal = c.requires.legal;
      counted = count_stays row new e.numbers ∙ counted;
      place = start_leaves_place len tx (rx_word (row_bytes row)) (tx_word (row_bytes row)) c.requires.legal e.tx;
      able = subst (λ ns. IsTrue (list_all (can_fit len) ns)) (sym c.take_too_big.ensures.left) (all_left (can_fit len) c.self.inside.notices);
      clean =
          start_leaves_clean len tx row (row_bytes new) c.on-start.result.clean c.clear.new.self.messages c.requires.legal counted e.whole
          e.tx e.clean e.bytes c.clear.ensures.messages;
      dirty = λ _. c.clear.ensures.messages;
    }

pub returns-clause-left : goal.returns-clause-left
returns-clause-left c = λ serial.
    let len = c.args.len in
    let r = c.self.inside in
    let row = c.exchange.new.row in
    let new = c.on-start.new.row in
    let numbers = c.args.numbers.now in
    let e = c.on-start.ensures in
    let lent = row_of (with_row c.args.private.now r.row) numbers in
    let is : row ≡ lent = c.in_ok-exchange.ensures.row in
    subst (λ (h : Held).
    made serial len (numbers_of new) c.on-start.result.tx c.on-start.result.clean c.clear.new.self.messages c.take_too_big.new.self (row_bytes new)
    ≡ restarted len numbers (lent_bytes (given_back c.args.private.now h) numbers) (paged serial h)) c.self.view_is
    (same_made serial len
    (e.numbers ∙ ap numbers_of is ∙ numbers_of-row_of (with_row c.args.private.now r.row) numbers) e.tx e.clean
    c.clear.ensures.messages c.take_too_big.ensures.left (start_bytes len c.on-start.result.tx (row_bytes row) (row_bytes new) e.tx e.bytes)
    ∙ ap (λ x. started (record {
      ring = record {
        serial = serial;
        len = len;
        pages = numbers;
        tx = r.tx;
        clean = r.clean;
        untaken = r.untaken.messages;
        notices = (resized (made serial r.len (numbers_of r.row) r.tx r.clean r.untaken.messages r.notices (row_bytes r.row)).ring len numbers).notices;
      };
      own = row_bytes x;
    })) is)
