use Rattle.std.proofs.Common.{option_map, sym, ap, ◌∙◌, ℕ}
use Rattle.argo_base.specs.declared.ring_key.RingKey.{RingKey}
use Rattle.flat_live.proofs.SweepLaws.{nearest_key}
use Rattle.flat_live.proofs.matches.next_key.Goals as goal

pub returns-in_err-key : goal.returns-in_err-key
returns-in_err-key c =
    c.from_residual.ensures ∙ sym (ap (option_map (λ (e : RingKey × ℕ). e.0)) c.in_err-key.was)
    ∙ nearest_key c.args.after c.args.rings.now.entries c.loop-key.key-iterator c.loop-key.best c.in-None.ensures.steps.0 c.loop-key.invariant

pub returns : goal.returns
returns c =
    sym (ap (option_map (λ (e : RingKey × ℕ). e.0)) c.in_ok-key.was)
    ∙ nearest_key c.args.after c.args.rings.now.entries c.loop-key.key-iterator c.loop-key.best c.in-None.ensures.steps.0 c.loop-key.invariant
