-- Finite sets of rings, as the lists of their ids by rising id.
use Rattle.std.specs.Prelude.{Bool, List}
use Rattle.std.specs.List.{list_any}
use Rattle.std.specs.BTreeMap.{is_at}
use Rattle.argo_base.specs.declared.ring_key.RingId.{RingId}
use Rattle.argo_base.specs.Match.{id_cmp}

-- whether the ring is a member
abbrev pub has_id : List RingId → RingId → Bool
has_id ids id = list_any (is_at (id_cmp id)) ids
