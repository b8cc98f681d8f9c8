-- The worked examples of what laws over whole runs speak of, each computed.
use Rattle.std.proofs.Common.{refl, arith}
use Rattle.argo_model.specs.Examples.Laws.{PingAndPongIsTaken, PingAndPongHasCauses, PingAndPongIsPossible, PingInShort, NoticeIsServed, first_ring_of}

pub ping_and_pong_is_taken : PingAndPongIsTaken
ping_and_pong_is_taken = record { ping = refl; ping_is_taken = refl; pong = refl; pong_is_taken = refl }

pub ping_and_pong_has_causes : PingAndPongHasCauses
ping_and_pong_has_causes = record { ping = refl; pong = refl }

pub ping_and_pong_is_possible : PingAndPongIsPossible
ping_and_pong_is_possible = refl

pub ping_in_short : PingInShort
ping_in_short = refl

pub notice_is_served : NoticeIsServed
notice_is_served =
    record {
      accepted = (refl, refl);
      held = record { no_more_taken = omega arith; untaken = refl; held = record { leaves_room = omega arith; spelled = (refl, refl) } };
      refused = refl;
      noted = record { by_sender = refl; of_ring = refl; refused = refl };
      held_after_the_take = record { no_more_taken = omega arith; untaken = refl; held = record { leaves_room = omega arith; spelled = refl } };
      served = record { by_owner = refl; of_ring = refl; fits = refl; signalled = refl };
      signalled = record { name = first_ring_of 1; by_owner = refl; ended = refl };
      looked_at = refl;
    }
