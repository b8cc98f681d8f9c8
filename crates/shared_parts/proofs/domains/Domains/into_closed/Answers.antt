use Rattle.std.proofs.Common.{ℕ, List, subst}
use Rattle.std.specs.List.Sorted.{IsStrictlySortedBy}
use Rattle.std.specs.Ordering.{nat_cmp}
use Rattle.std.specs.Map.{keys_of}
use Rattle.shared_parts.specs.Domains.{AreOf, Standing}
use Rattle.shared_parts.proofs.Starts.{rows_are, rows_rise}
use Rattle.shared_parts.proofs.domains.Domains.into_closed.Goals as goal

pub returns-clause-rows : goal.returns-clause-rows
returns-clause-rows g c =
    rows_are g.A.Plan.facts c.args.self c.loop-id.id-iterator c.loop-id.closed (subst (AreOf g.A.Plan.facts) c.self.view_is c.self.invariant) c.loop-id.invariant c.in-None.ensures.steps.0

pub returns-clause-rise : goal.returns-clause-rise
returns-clause-rise g c =
    rows_rise c.args.self c.loop-id.id-iterator c.loop-id.closed (subst (λ (es : List (ℕ × Standing)). IsStrictlySortedBy nat_cmp (keys_of es)) c.self.view_is c.len.ensures.ordered) c.loop-id.invariant c.in-None.ensures.steps.0
