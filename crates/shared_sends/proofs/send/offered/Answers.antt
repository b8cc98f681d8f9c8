use Rattle.std.proofs.Common.{IsTrue, sym, subst, ◌∙◌}
use Rattle.argo_model.specs.Rules.Shorts.{short_of}
use Rattle.argo_board.specs.Journal.{IsOutcome}
use Rattle.shared_sends.specs.Comes.{is_offered}
use Rattle.shared_sends.proofs.OfferLaws.{said_can, said_fits}
use Rattle.shared_sends.proofs.send.offered.Goals as goal

pub append-requires-clause-short : goal.append-requires-clause-short
append-requires-clause-short g c =
    subst (λ x. IsOutcome (short_of x)) (sym c.outcome_of-outcome.ensures) (said_fits c.args.ring.now c.args.offer _ c.accept.ensures.outcome c.requires.short)

pub returns-clause-can : goal.returns-clause-can
returns-clause-can g c =
    subst (λ x. IsTrue (is_offered c.args.offer.load x)) (sym (c.append.ensures.outcome ∙ c.outcome_of-outcome.ensures)) (said_can c.args.ring.now c.args.offer _ c.accept.ensures.outcome)
