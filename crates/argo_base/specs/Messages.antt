-- What the errors of this crate say to a user.
use Rattle.std.specs.Prelude.{ℕ, List, codes}

abbrev pub no_memory_text : List ℕ
no_memory_text = codes "out of memory"
