use Rattle.std.proofs.Common.{◌≡◌, ℕ, ◌+◌, ◌*◌, ◌==◌, Some, List, length, position, option_map, unwrap_or, true, if◌then◌else◌, sym, ap, ◌∙◌}
use Rattle.argo_model.specs.Rules.State.{Ring}
use Rattle.argo_model.specs.Rules.RingBytes.{paged}
use Rattle.argo_model.specs.Rules.Puts.{after_put, ring_after_put, clean_after, moves}
use Rattle.flat_live.proofs.ring.Ring.after_put.Goals as goal

-- a put into a page of a clean ring
put_at : (memory : List ℕ) (page off : ℕ) (bytes : List ℕ) (r : Ring) (place : ℕ) → position (λ p. p == page) r.pages ≡ Some place → r.clean ≡ true
    → after_put memory page off bytes r ≡ clean_after r (4096 * place + off) (length bytes) (moves (paged memory r) (4096 * place + off) bytes)
put_at memory page off bytes r place here clean =
    ap (λ o. unwrap_or (option_map (λ at. ring_after_put (paged memory r) at bytes) (option_map (λ place. 4096 * place + off) o)) r) here
    ∙ ap (λ b. if b then clean_after r (4096 * place + off) (length bytes) (moves (paged memory r) (4096 * place + off) bytes) else r) clean

pub returns-then-self : goal.returns-then-self
returns-then-self c =
    let r = c.args.self.now in
    let at = 4096 * c.in-Some.place + c.args.off in
    let pages = c.as_slice.ensures ∙ ap (λ (x : Ring). x.pages) c.self.view_is in
    let here : position (λ p. p == c.args.page) r.pages ≡ Some c.in-Some.place =
    ap (λ ps. position (λ p. p == c.args.page) ps) (sym pages) ∙ sym c.place_of.ensures ∙ c.in-Some.is in
    let clean : r.clean ≡ true = ap (λ (x : Ring). x.clean) (sym c.self.view_is) ∙ c.if-self.true in
    c.clean_after.ensures
    ∙ ap (λ m. clean_after r at (length c.args.bytes.now) m) c.moves-moved.ensures.is
    ∙ sym (put_at c.args.memory.now c.args.page c.args.off c.args.bytes.now r c.in-Some.place here clean)
