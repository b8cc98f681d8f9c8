use Rattle.std.proofs.Common.{◌≡◌, ◌≤◌, drop}
use Rattle.std.specs.VecDeque.{deque_len, deque_capacity}
use Rattle.ring_core.proofs.log.Log.drop_first.Given as goal

-- so many are taken, and the room stays
abbrev pub invariant-loop : goal.invariant-loop
invariant-loop l = record {
  left : l.self-inside.messages.items ≡ drop l.counter l.initial.self-inside.messages.items;
  no_more : deque_len l.self-inside.messages ≤ deque_len l.initial.self-inside.messages;
  capacity : deque_capacity l.self-inside.messages ≡ deque_capacity l.initial.self-inside.messages;
}
