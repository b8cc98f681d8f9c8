use Rattle.std.proofs.Common.{◌-◌, ◌*◌, arith, ◌∙◌, refl, sym, ap}
use Rattle.argo_base.specs.Slots.{place_after}
use Rattle.argo_abi.specs.declared.message_head.MessageHead.{MessageHead}
use Rattle.argo_model.specs.declared.action.Outcome.TheVariants.{Bytes}
use Rattle.argo_model.specs.Programs.Recv.{is_message_size, slot_pieces}
use Rattle.guest_lib.proofs.FetchLaws.{head_piece, fetched}
use Rattle.guest_lib.proofs.WordLaws.{head_good, head_bad, body_ahead, short_message, head_read, legal_small}
use Rattle.guest_lib.proofs.own_ring.OwnRing.head_heard.Goals as goal

pub returns-then-not-is_message_head : goal.returns-then-not-is_message_head
returns-then-not-is_message_head c =
    let r = c.args.self in
    let piece = head_piece r.page r.len c.args.rx c.requires.ring c.requires.rx in
    let head = head_read c.args.bytes.now c.in-Some.bytes.now c.get_message_head-head.result c.requires.size c.in-Some.ensures.cases.same c.get_message_head-head.ensures.fields in
    let bad = ap (λ (h : MessageHead). is_message_size r.len c.args.rx c.args.tx h.len) (sym head) ∙ sym c.is_message_head.ensures ∙ c.if-not-is_message_head.true in
    record {
      rest =
          λ end os. fetched _ _ _ piece _ end _ (Bytes c.args.bytes.now) os c.args.bytes.now refl
          ∙ head_bad end r.page r.len c.args.rx c.args.tx os c.args.bytes.now bad;
      ready = tt;
      nearer = omega arith;
    }

pub returns : goal.returns
returns c =
    let r = c.args.self in
    let h = c.get_message_head-head.result in
    let piece = head_piece r.page r.len c.args.rx c.requires.ring c.requires.rx in
    let head = head_read c.args.bytes.now c.in-Some.bytes.now h c.requires.size c.in-Some.ensures.cases.same c.get_message_head-head.ensures.fields in
    let good = sym c.is_message_head.ensures ∙ c.if-not-is_message_head.false in
    let slots = c.over.ensures.is ∙ ap (λ a. slot_pieces (r.page * 4096) r.len a (h.len - 16)) c.place_after-at.ensures.is in
    let word = c.place_after.ensures.is ∙ ap (place_after r.len c.args.rx) c.up.ensures in
    let small = legal_small r.len c.requires.ring in
    let short = short_message r.len c.args.rx c.args.tx h.len small.1 small.0 good in
    record {
      rest =
          λ end os. fetched _ _ _ piece _ end _ (Bytes c.args.bytes.now) os c.args.bytes.now refl
          ∙ head_good end r.page r.len c.args.rx c.args.tx os c.args.bytes.now (ap (λ (h : MessageHead). is_message_size r.len c.args.rx c.args.tx h.len) (sym head) ∙ good)
          ∙ body_ahead end r.page r.len c.args.rx c.args.tx os c.args.bytes.now _ _ h _ slots c.new.ensures.items word head
          ∙ sym (c.stage.ensures.alike end r.page r.len os);
      ready = (c.stage.ensures.ready r.len, c.stage.ensures.some);
      nearer = omega (arith, c.stage.ensures.few, c.over.ensures.few, short.1);
    }
