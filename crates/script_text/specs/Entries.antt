-- What a line adds to a script.
use Rattle.std.specs.Prelude.{ℕ, Bool, true, ◌&&◌, ◌==◌, not, if◌then◌else◌, List, [], ◌∷◌, codes, Option, Some, None, is_none, Result, Ok, Err}
use Rattle.std.specs.Str.{bytes_eq}
use Rattle.argo_model.specs.declared.scripts.DomainLine.{DomainLine}
use Rattle.argo_model.specs.declared.scripts.Actor.{Actor}
use Rattle.argo_model.specs.declared.scripts.Actor.TheVariants as actors
use Rattle.argo_model.specs.declared.line.Line.{Line}
use Rattle.argo_model.specs.declared.line.Line.TheVariants as lines
use Rattle.argo_model.specs.Runs.Script.{Script, is_domain_id, is_page_count, is_generation, is_vcpu_line, has_domain, is_known_actor}
use Rattle.script_text.specs.declared.kind.ScriptKind.{ScriptKind}
use Rattle.script_text.specs.declared.kind.ScriptKind.TheVariants.{Word, Count, Number, Hex, Range, Domain}
use Rattle.script_text.specs.declared.verb.Verb.{Verb}
use Rattle.script_text.specs.declared.verb.Verb.TheVariants as verbs
use Rattle.script_text.specs.declared.entry.Entry.{Entry}
use Rattle.script_text.specs.declared.entry.Entry.TheVariants as entries
use Rattle.script_text.specs.Numbers.{number_of, hex_of}

-- one check after the other, up to the first that fails
infixl 10 ◌>>=◌
abbrev pub ◌>>=◌ : {A B : Type 0} → Result A ScriptKind → (A → Result B ScriptKind) → Result B ScriptKind
(Ok x) >>= f = f x
(Err k) >>= f = Err k

-- the value, or the fault where there is none
abbrev pub or_fault : {A : Type 0} → ScriptKind → Option A → Result A ScriptKind
or_fault k None = Err k
or_fault k (Some x) = Ok x

-- the fault, unless the test holds
abbrev pub unless : {A : Type 0} → Bool → ScriptKind → Result A ScriptKind → Result A ScriptKind
unless test k read = if test then read else Err k

-- a word that should be a number
abbrev pub number : List ℕ → Result ℕ ScriptKind
number w = or_fault Number (number_of w)

-- a word that should be a hex word
abbrev pub hex : List ℕ → Result (List ℕ) ScriptKind
hex w = or_fault Hex (hex_of w)

-- no word
abbrev pub no_words : List (List ℕ) → Result (Unit {0}) ScriptKind
no_words [] = Ok tt
no_words _ = Err Count

-- just one word
abbrev pub one_word : List (List ℕ) → Result (List ℕ) ScriptKind
one_word (a ∷ []) = Ok a
one_word _ = Err Count

-- just two words
abbrev pub two_words : List (List ℕ) → Result (List ℕ × List ℕ) ScriptKind
two_words (a ∷ b ∷ []) = Ok (a, b)
two_words _ = Err Count

-- just five words
abbrev pub five_words : List (List ℕ) → Result (List ℕ × List ℕ × List ℕ × List ℕ × List ℕ) ScriptKind
five_words (a ∷ b ∷ c ∷ d ∷ e ∷ []) = Ok (a, b, c, d, e)
five_words _ = Err Count

-- three words, and maybe a fourth
abbrev pub domain_words : List (List ℕ) → Result (List ℕ × List ℕ × List ℕ × Option (List ℕ)) ScriptKind
domain_words (d ∷ pages ∷ p ∷ []) = Ok (d, pages, p, None)
domain_words (d ∷ pages ∷ p ∷ off ∷ []) = Ok (d, pages, p, Some off)
domain_words _ = Err Count

-- a word, and maybe two more
abbrev pub vcpu_words : List (List ℕ) → Result (List ℕ × Option (List ℕ × List ℕ)) ScriptKind
vcpu_words (d ∷ []) = Ok (d, None)
vcpu_words (d ∷ gen ∷ g ∷ []) = Ok (d, Some (gen, g))
vcpu_words _ = Err Count

-- the word that may stand at the end is the one that should
abbrev pub is_off : Option (List ℕ) → Bool
is_off None = true
is_off (Some w) = bytes_eq w (codes "off")

-- `domain D pages P`, or `domain D pages P off`
abbrev pub domain_line : List (List ℕ) → Result DomainLine ScriptKind
domain_line ws = do
  w ← domain_words ws
  unless (bytes_eq w.1 (codes "pages") && is_off w.3) Word (do
    id ← number w.0
    pages ← number w.2
    Ok (record { id = id; pages = pages; on = is_none w.3 }))

-- `vcpu D`, which is of generation 1, or in format 2 `vcpu D gen G`, by the words behind `vcpu`
abbrev pub vcpu_of : ℕ → List ℕ × Option (List ℕ × List ℕ) → Result Actor ScriptKind
vcpu_of version (d, None) = do
  id ← number d
  Ok (actors.Vcpu id 1)
vcpu_of version (d, Some (gen, g)) =
    unless (version == 2) Count (unless (bytes_eq gen (codes "gen")) Word (do
      id ← number d
      generation ← number g
      Ok (actors.Vcpu id generation)))

-- the virtual CPU that a `vcpu` line names
abbrev pub vcpu_line : ℕ → List (List ℕ) → Result Actor ScriptKind
vcpu_line version ws = do
  w ← vcpu_words ws
  vcpu_of version w

-- `store ADDR HEX`
abbrev pub store_line : List (List ℕ) → Result Line ScriptKind
store_line ws = do
  w ← two_words ws
  at ← number w.0
  bytes ← hex w.1
  Ok (lines.Store at bytes)

-- `load ADDR N`
abbrev pub load_line : List (List ℕ) → Result Line ScriptKind
load_line ws = do
  w ← two_words ws
  at ← number w.0
  n ← number w.1
  Ok (lines.Load at n)

-- `op C A1 A2 A3 A4`
abbrev pub op_line : List (List ℕ) → Result Line ScriptKind
op_line ws = do
  w ← five_words ws
  c ← number w.0
  a1 ← number w.1
  a2 ← number w.2
  a3 ← number w.3
  a4 ← number w.4
  Ok (lines.Op c a1 a2 a3 a4)

-- `await N`
abbrev pub await_line : List (List ℕ) → Result Line ScriptKind
await_line ws = do
  w ← one_word ws
  turns ← number w
  Ok (lines.Await turns)

-- `recv PAGE LEN`
abbrev pub recv_line : List (List ℕ) → Result Line ScriptKind
recv_line ws = do
  w ← two_words ws
  page ← number w.0
  len ← number w.1
  Ok (lines.Recv page len)

-- a line of a virtual CPU, which is within its ranges
abbrev pub vcpu_entry : Result Line ScriptKind → Result Entry ScriptKind
vcpu_entry read = do
  l ← read
  unless (is_vcpu_line l) Range (Ok (entries.Line l))

-- the known domain that the only word of a line names
abbrev pub named_domain : List DomainLine → List (List ℕ) → Result ℕ ScriptKind
named_domain ds ws = do
  w ← one_word ws
  d ← number w
  unless (is_domain_id d) Range (unless (has_domain ds d) Domain (Ok d))

-- a line of the control section: `destroy D`, `reset D` or `create D`
abbrev pub control_entry : (ℕ → Line) → Result ℕ ScriptKind → Result Entry ScriptKind
control_entry line named = do
  d ← named
  Ok (entries.Line (line d))

-- the id of the domain and the generation are within their ranges
abbrev pub is_actor_in_range : Actor → Bool
is_actor_in_range (actors.Vcpu d generation) = is_domain_id d && is_generation generation
is_actor_in_range actors.Control = true

-- a domain, whose id is new
abbrev pub domain_entry : List DomainLine → List (List ℕ) → Result Entry ScriptKind
domain_entry ds ws = do
  d ← domain_line ws
  unless (is_domain_id d.id && is_page_count d.pages) Range (unless (not (has_domain ds d.id)) Domain (Ok (entries.Domain d)))

-- the beginning of a section of a virtual CPU, whose domain is known
abbrev pub section_entry : ℕ → List DomainLine → List (List ℕ) → Result Entry ScriptKind
section_entry version ds ws = do
  a ← vcpu_line version ws
  unless (is_actor_in_range a) Range (unless (is_known_actor ds a) Domain (Ok (entries.Section a)))

-- the beginning of the control section: `control`
abbrev pub control_section : List (List ℕ) → Result Entry ScriptKind
control_section ws = do
  _ ← no_words ws
  Ok (entries.Section actors.Control)

-- what a line adds, by its verb and the words behind it
abbrev pub entry_of : Script → Verb → List (List ℕ) → Result Entry ScriptKind
entry_of s verbs.Domain ws = domain_entry s.domains ws
entry_of s verbs.Vcpu ws = section_entry s.version s.domains ws
entry_of s verbs.Control ws = control_section ws
entry_of s verbs.Store ws = vcpu_entry (store_line ws)
entry_of s verbs.Load ws = vcpu_entry (load_line ws)
entry_of s verbs.Op ws = vcpu_entry (op_line ws)
entry_of s verbs.Await ws = vcpu_entry (await_line ws)
entry_of s verbs.Recv ws = vcpu_entry (recv_line ws)
entry_of s verbs.Destroy ws = control_entry (λ d. lines.Destroy d) (named_domain s.domains ws)
entry_of s verbs.Reset ws = control_entry (λ d. lines.Reset d) (named_domain s.domains ws)
entry_of s verbs.Create ws = control_entry (λ d. lines.Create d) (named_domain s.domains ws)
