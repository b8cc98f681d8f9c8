-- What a map of domains ends as, where a `&mut` to one of its values is returned.
use Rattle.std.specs.Prelude.{ℕ, List, Option}
use Rattle.std.specs.Borrow.{LendsIf, Fml, RattleType, MutBor}
use Rattle.std.specs.Ordering.{nat_cmp}
use Rattle.std.specs.Map.{set_value}
use Rattle.std.specs.BTreeMap.{is_at}
use Rattle.domains.specs.contracts.domain_map.DomainMap.{the_row}

module _ (T : RattleType) (s : MutBor (List (ℕ × T.Denot))) where
  -- once the borrow ends, the domain has the last value written; at `None` the map stays as it is
  abbrev pub lends_value : ℕ → Option (MutBor T.Denot) → Fml
  lends_value d r = LendsIf (the_row T) T s r (set_value (is_at (nat_cmp d)) s.now) s.now
