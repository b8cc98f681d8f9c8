use Rattle.std.proofs.Common.{◌≡◌, take}
use Rattle.shared_parts.specs.Domains.{fresh_all}
use Rattle.shared_parts.proofs.domains.fresh_domains.Given as goal

-- the domains of the lines so far
abbrev pub invariant-loop-line : goal.invariant-loop-line
invariant-loop-line l = l.domains.entries ≡ fresh_all (take l.line-index l.lines)
