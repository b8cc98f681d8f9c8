-- The words for the kinds of fault.
use Rattle.std.specs.Prelude.{ℕ, List, codes}
use Rattle.script_text.specs.declared.kind.ScriptKind.{ScriptKind}
use Rattle.script_text.specs.declared.kind.ScriptKind.TheVariants.{Size, Header, Word, Place, Count, Number, Hex, Range, Domain, Limit}

-- a kind of fault in a message
abbrev pub kind_text : ScriptKind → List ℕ
kind_text Size = codes "size"
kind_text Header = codes "header"
kind_text Word = codes "word"
kind_text Place = codes "place"
kind_text Count = codes "count"
kind_text Number = codes "number"
kind_text Hex = codes "hex"
kind_text Range = codes "range"
kind_text Domain = codes "domain"
kind_text Limit = codes "limit"
