use Rattle.std.proofs.Common.{◌-◌, take, arith}
use Rattle.std.proofs.lemmas.List.{take-take}
use Rattle.lock_tokens.proofs.Rising.{rise-take}
use Rattle.lock_tokens.proofs.held.Held.drop_last.Goals as goal

pub invariant_of-self : goal.invariant_of-self
invariant_of-self c =
    let n = c.self.inside.count in
    let fewer = rise-take 0 (n - 1) (take n c.self.inside.ranks) c.self.invariant.1 in (
      omega (arith, c.self.invariant.0),
      rw (← take-take (n - 1) n c.self.inside.ranks (omega arith)) fewer,
    )
