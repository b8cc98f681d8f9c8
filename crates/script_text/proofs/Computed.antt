-- The texts of the examples, computed.
use Rattle.std.proofs.Common.{refl}
use Rattle.std.proofs.lemmas.Bool.{lt-ltb}
use Rattle.script_text.specs.Examples.{BothFormats, Faults}

pub both_formats : BothFormats
both_formats = (refl, refl)

pub faults : Faults
faults = record {
  size = λ bytes long. rw (lt-ltb _ _ long) refl;
  no_header = refl;
  header = refl;
  word = refl;
  header_again = refl;
  reset_of_two = refl;
  pages = refl;
  place = refl;
  control_again = refl;
  count = refl;
  generation_of_two = refl;
  number = refl;
  number_too_large = refl;
  hex = refl;
  range = refl;
  domain = refl;
  limit = refl;
}
