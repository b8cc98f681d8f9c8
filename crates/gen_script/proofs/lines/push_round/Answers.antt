use Rattle.std.proofs.Common.{append_assoc}
use Rattle.gen_script.proofs.lines.push_round.Goals as goal

pub returns : goal.returns
returns c =
    rw (
      c.in_ok-push-3.ensures.ok,
      c.in_ok-push-2.ensures.ok,
      c.in_ok-push.ensures.ok,
      c.in_ok-push_store-2.ensures,
      c.in_ok-push_store.ensures,
      c.put_iov.ensures.bytes,
      c.put_send_addr.ensures.bytes,
      c.address_in-src.ensures,
      c.address_in-dst.ensures,
    )
    (simp append_assoc)
