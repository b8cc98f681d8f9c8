-- The worked examples: each computes.
use Rattle.std.proofs.Common.{inl, inr, refl}
use Rattle.argo_laws.specs.Examples.{the_ring, NoticesEnd, NoticesStay, FlagsAreSet, FlagsAreCleared, NamesGoOn}

pub notices_end : NoticesEnd
notices_end =
    record {
      sweep_fits = record { stood = refl; is_gone = refl; legally = record { by_owner = refl; of_ring = refl; fits = refl; signalled = refl }; flag_after = refl };
      too_short = record { stood = refl; is_gone = refl; legally = record { by_owner = refl; of_ring = refl; done = refl; too_big = refl; signalled = refl }; flag_after = refl };
      question_finds_room = record { stood = refl; is_gone = refl; legally = record { by_sender = refl; is_match = refl; answered = refl; found_room = refl }; flag_after = refl };
      unregistered = record { stood = refl; is_gone = refl; legally = refl; flag_after = refl };
      owner_destroyed = record { stood = refl; is_gone = refl; legally = inl refl; flag_after = refl };
      owner_reset = record { stood = refl; is_gone = refl; legally = inl refl; flag_after = refl };
      domain_destroyed = record { stood = refl; is_gone = refl; legally = inr (record { of_domain = refl; done = refl }); flag_after = refl };
      domain_reset = record { stood = refl; is_gone = refl; legally = inr (record { of_domain = refl; done = refl }); flag_after = refl };
      partner_destroyed = record { stood = refl; is_gone = refl; legally = inl refl; flag_after = refl };
      partner_reset = record { stood = refl; is_gone = refl; legally = inl refl; flag_after = refl };
    }

pub notices_stay : NoticesStay
notices_stay =
    record {
      sweep_finds_none = record { stands = refl; is_clear = refl };
      question_raises = record { stands = refl; is_clear = refl };
      question_keeps = record { stands = refl; is_clear = refl };
      long_enough = record { stands = refl; is_clear = refl };
      accepted = record { stands = refl; is_clear = refl };
    }

pub flags_are_set : FlagsAreSet
flags_are_set =
    record {
      accepted = record { was_clear = refl; is_set = refl; legally = (refl, refl) };
      sweep_fits = record { was_clear = refl; is_set = refl; legally = record { name = the_ring; by_owner = refl; ended = refl } };
      too_short = record { was_clear = refl; is_set = refl; legally = record { name = the_ring; by_owner = refl; ended = refl } };
    }

pub flags_are_cleared : FlagsAreCleared
flags_are_cleared =
    record {
      look = record { was_set = refl; is_clear = refl; legally = refl };
      destroyed = record { was_set = refl; is_clear = refl; legally = refl };
      reset = record { was_set = refl; is_clear = refl; legally = refl };
    }

pub names_go_on : NamesGoOn
names_go_on =
    record {
      unregistered = record { old_is_gone = refl; new_stands = refl };
      owner_reset = record { old_is_gone = refl; new_stands = refl };
      owner_created = record { old_is_gone = refl; new_stands = refl };
      still_stands = refl;
    }
