use Rattle.std.proofs.Common.{sym, ap, ◌∙◌}
use Rattle.std.specs.Prelude.{is_some}
use Rattle.argo_base.specs.Match.{key_of, at_key}
use Rattle.paged_live.proofs.EndLaws.{copied_there}
use Rattle.paged_live.proofs.PartsLaws.{met_exact, met_any}
use Rattle.paged_live.proofs.offers.match_key.Goals.{then-stands, else-stands}
use Rattle.paged_live.proofs.offers.match_key.Goals as goal

pub returns : goal.returns
returns c =
    let rows = c.args.rings.now in
    let found = ap is_some (sym c.find_exact.ensures.value) ∙ sym (copied_there c.find_exact.result) ∙ sym c.is_some-stands.ensures in
    elim c.if-stands.branch [
      | then-stands w ↦ ap (λ p. at_key rows (key_of c.args.port p)) w.partner-is ∙ met_exact rows c.args.port c.args.sender (found ∙ w.if-stands.true)
      | else-stands w ↦ ap (λ p. at_key rows (key_of c.args.port p)) w.partner-is ∙ met_any rows c.args.port c.args.sender (found ∙ w.if-stands.false)
    ]
