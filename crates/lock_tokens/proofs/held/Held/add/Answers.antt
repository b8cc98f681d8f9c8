use Rattle.std.proofs.Common.{rules, ◌<◌, arith, take}
use Rattle.std.proofs.lemmas.List.{take_more_set}
use Rattle.lock_tokens.specs.Ranks.{IsAboveAll}
use Rattle.lock_tokens.proofs.Rising.{few, rise-push}
use Rattle.lock_tokens.proofs.held.Held.add.Goals as goal

pub bounds-self-inside-self-inside : goal.bounds-self-inside-self-inside
bounds-self-inside-self-inside c =
    let above : IsAboveAll c.args.rank (take c.self.inside.count c.self.inside.ranks) = rw c.self.view_is c.requires in
    let some = few 0 c.args.rank (take c.self.inside.count c.self.inside.ranks) (omega arith) c.self.invariant.1 above in
    search rules

pub invariant_of-self : goal.invariant_of-self
invariant_of-self c =
    let above : IsAboveAll c.args.rank (take c.self.inside.count c.self.inside.ranks) = rw c.self.view_is c.requires in
    let some = few 0 c.args.rank (take c.self.inside.count c.self.inside.ranks) (omega arith) c.self.invariant.1 above in
    let rises = rise-push 0 c.args.rank (take c.self.inside.count c.self.inside.ranks) (omega arith) c.self.invariant.1 above in
    let room : c.self.inside.count < 256 = search rules in (
      omega (arith, room),
      rw (take_more_set c.self.inside.ranks c.self.inside.count c.args.rank (rw c.self.told room)) rises,
    )

pub returns : goal.returns
returns c =
    let above : IsAboveAll c.args.rank (take c.self.inside.count c.self.inside.ranks) = rw c.self.view_is c.requires in
    let some = few 0 c.args.rank (take c.self.inside.count c.self.inside.ranks) (omega arith) c.self.invariant.1 above in
    let room : c.self.inside.count < 256 = search rules in
    rw (← c.self.view_is) (take_more_set c.self.inside.ranks c.self.inside.count c.args.rank (rw c.self.told room))
