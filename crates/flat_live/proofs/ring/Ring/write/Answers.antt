use Rattle.std.proofs.Common.{◌≡◌, ◌/◌, IsTrue, length, sym, ap, ◌∙◌, subst}
use Rattle.argo_base.specs.Slots.{place_after, room}
use Rattle.argo_model.specs.Rules.State.{Ring}
use Rattle.argo_model.specs.Rules.Deliver.{bytes_with}
use Rattle.argo_model.specs.Rules.Messages.{spell}
use Rattle.argo_model.specs.Rules.RingBytes.{paged, laid, ring_bytes, write_slots, write_tx}
use Rattle.flat_live.specs.Memory.{are_there, Writes}
use Rattle.flat_live.proofs.LaidLaws.{laid_back}
use Rattle.flat_live.proofs.ring.Ring.write.Goals as goal

pub returns-clause-memory : goal.returns-clause-memory
returns-clause-memory c =
    let memory = c.args.memory.now in
    let new = c.write_tx.new.memory in
    let m = c.args.message.now in
    let r = c.self.inside in
    let tx = c.advance-tx.result in
    let pages = c.as_slice-pages.result.now in
    let there : IsTrue (are_there (length memory / 4096) r.pages) = subst (λ (x : Ring). IsTrue (are_there (length memory / 4096) x.pages)) (sym c.self.view_is) c.requires.there in
    let writes : Writes pages (λ own. write_tx tx (write_slots r.len r.tx (spell m) own)) memory new =
    λ base own h. c.write_tx.ensures.is base (write_slots r.len r.tx (spell m) own) (c.write_message.ensures.is base own h) in
    let next = c.advance-tx.ensures.is ∙ ap (λ k. place_after r.len r.tx (room k)) c.len.ensures in
    subst (λ (x : Ring). new ≡ laid x.pages (bytes_with (paged memory x) m) memory) c.self.view_is
    (laid_back memory new r.pages (λ own. write_tx tx (write_slots r.len r.tx (spell m) own)) there c.self.invariant.differ
    (subst (λ ps. Writes ps (λ own. write_tx tx (write_slots r.len r.tx (spell m) own)) memory new) c.as_slice-pages.ensures writes)
    ∙ ap (λ t. laid r.pages (write_tx t (write_slots r.len r.tx (spell m) (ring_bytes memory r.pages))) memory) next)
