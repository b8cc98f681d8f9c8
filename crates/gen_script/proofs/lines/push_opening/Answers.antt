use Rattle.std.proofs.Common.{append_assoc}
use Rattle.gen_script.proofs.lines.push_opening.Goals as goal

pub returns : goal.returns
returns c =
    rw (
      c.in_ok-push_store-3.ensures,
      c.in_ok-push.ensures.ok,
      c.in_ok-push_store-2.ensures,
      c.in_ok-push_store.ensures,
      c.to_le_bytes.ensures,
      c.from.ensures,
      c.put_register_ring.ensures.bytes,
    )
    (simp append_assoc)
