use Rattle.std.proofs.Common.{rules, arith, ◌*◌, ◌∙◌, refl, sym, ap}
use Rattle.argo_model.specs.declared.action.Outcome.TheVariants.{Bytes}
use Rattle.argo_model.specs.Programs.Recv.{recv_words}
use Rattle.guest_lib.proofs.FetchLaws.{tx_piece, fetched}
use Rattle.guest_lib.proofs.WordLaws.{words_good}
use Rattle.guest_lib.proofs.own_ring.OwnRing.tx_heard.Goals as goal

pub returns : goal.returns
returns c =
    let rx_place = sym c.is_place.ensures ∙ c.if-not-is_place.false in
    let tx_place = sym c.is_place-else-not-is_place.ensures ∙ c.if-not-is_place-2.false in
    record {
      rest =
          λ end os. fetched _ _ _ (tx_piece c.args.self.page) _ end _ (Bytes c.args.bytes.now) os c.args.bytes.now refl
          ∙ ap (λ tx. recv_words end (c.args.self.page * 4096) c.args.self.len c.args.rx tx os) (sym c.word_in-tx.ensures)
          ∙ words_good end c.args.self.page c.args.self.len c.args.rx c.word_in-tx.result os rx_place tx_place c.if-rx-tx.false;
      ready = ((search rules, search rules), omega arith);
      nearer = omega arith;
    }
