-- What a script is, and the rules that every script keeps.
use Rattle.std.specs.Prelude.{ℕ, Bool, true, false, ◌&&◌, ◌||◌, not, ◌==◌, nat_lt, nat_le, List, [], ◌∷◌, length, sum_by, count_by}
use Rattle.std.specs.List.{list_all, list_any}
use Rattle.argo_base.specs.Slots.{is_legal}
use Rattle.argo_model.specs.declared.scripts.DomainLine.{DomainLine}
use Rattle.argo_model.specs.declared.scripts.Actor.{Actor}
use Rattle.argo_model.specs.declared.scripts.Actor.TheVariants.{Vcpu, Control}
use Rattle.argo_model.specs.declared.line.Line.{Line}
use Rattle.argo_model.specs.declared.line.Line.TheVariants.{Store, Load, Op, Await, Recv, Destroy, Reset, Create}

-- a section: who works through it, and its lines
pub record Section : Type 0 where
  pub actor : Actor
  pub lines : List Line

-- a script: its format, its domains and its sections
pub record Script : Type 0 where
  pub version : ℕ
  pub domains : List DomainLine
  pub sections : List Section

-- the ids of domains are below 0x7FF0
abbrev pub is_domain_id : ℕ → Bool
is_domain_id d = nat_lt d 0x7FF0

-- a domain has 1 to 4,608 pages
abbrev pub is_page_count : ℕ → Bool
is_page_count p = nat_le 1 p && nat_le p 4608

-- a store or a load is of 1 to 64 bytes
abbrev pub is_short : ℕ → Bool
is_short n = nat_le 1 n && nat_le n 64

-- an await has 1 to 1,048,576 turns
abbrev pub is_turn_count : ℕ → Bool
is_turn_count n = nat_le 1 n && nat_le n 1048576

-- a generation is 1 to 8,193
abbrev pub is_generation : ℕ → Bool
is_generation g = nat_le 1 g && nat_le g 8193

-- the lines of a virtual CPU, within their ranges
abbrev pub is_vcpu_line : Line → Bool
is_vcpu_line (Store at bytes) = is_short (length bytes)
is_vcpu_line (Load at n) = is_short n
is_vcpu_line (Op c a1 a2 a3 a4) = true
is_vcpu_line (Await turns) = is_turn_count turns
is_vcpu_line (Recv page len) = nat_le page 4607 && is_legal len
is_vcpu_line (Destroy d) = false
is_vcpu_line (Reset d) = false
is_vcpu_line (Create d) = false

-- the lines of the control section
abbrev pub is_control_line : Line → Bool
is_control_line (Store at bytes) = false
is_control_line (Load at n) = false
is_control_line (Op c a1 a2 a3 a4) = false
is_control_line (Await turns) = false
is_control_line (Recv page len) = false
is_control_line (Destroy d) = true
is_control_line (Reset d) = true
is_control_line (Create d) = true

-- each line of a section stands where it may, within its range
abbrev pub is_lawful_for : Actor → List Line → Bool
is_lawful_for (Vcpu d generation) lines = is_generation generation && list_all is_vcpu_line lines
is_lawful_for Control lines = list_all is_control_line lines

abbrev pub is_lawful_section : Section → Bool
is_lawful_section s = is_lawful_for s.actor s.lines

-- the turns of an await; other lines have none
abbrev pub turns_of : Line → ℕ
turns_of (Store at bytes) = 0
turns_of (Load at n) = 0
turns_of (Op c a1 a2 a3 a4) = 0
turns_of (Await turns) = turns
turns_of (Recv page len) = 0
turns_of (Destroy d) = 0
turns_of (Reset d) = 0
turns_of (Create d) = 0

-- a domain line gives the id
abbrev pub has_domain : List DomainLine → ℕ → Bool
has_domain ds d = list_any (λ l. l.id == d) ds

-- the ids differ
abbrev pub are_distinct : List DomainLine → Bool
are_distinct [] = true
are_distinct (l ∷ ls) = not (has_domain ls l.id) && are_distinct ls

-- the domain that a line names is one of the script
abbrev pub names_known : List DomainLine → Line → Bool
names_known ds (Store at bytes) = true
names_known ds (Load at n) = true
names_known ds (Op c a1 a2 a3 a4) = true
names_known ds (Await turns) = true
names_known ds (Recv page len) = true
names_known ds (Destroy d) = has_domain ds d
names_known ds (Reset d) = has_domain ds d
names_known ds (Create d) = has_domain ds d

-- the domain of a virtual CPU is one of the script
abbrev pub is_known_actor : List DomainLine → Actor → Bool
is_known_actor ds (Vcpu d generation) = has_domain ds d
is_known_actor ds Control = true

abbrev pub is_known_section : List DomainLine → Section → Bool
is_known_section ds s = is_known_actor ds s.actor && list_all (names_known ds) s.lines

abbrev pub is_control : Actor → Bool
is_control (Vcpu d generation) = false
is_control Control = true

-- resets and creations are of format 2 alone
abbrev pub is_line_of_one : Line → Bool
is_line_of_one (Store at bytes) = true
is_line_of_one (Load at n) = true
is_line_of_one (Op c a1 a2 a3 a4) = true
is_line_of_one (Await turns) = true
is_line_of_one (Recv page len) = true
is_line_of_one (Destroy d) = true
is_line_of_one (Reset d) = false
is_line_of_one (Create d) = false

-- and so are generations past the first
abbrev pub is_actor_of_one : Actor → Bool
is_actor_of_one (Vcpu d generation) = generation == 1
is_actor_of_one Control = true

-- what format 1 can say
abbrev pub is_section_of_one : Section → Bool
is_section_of_one s = is_actor_of_one s.actor && list_all is_line_of_one s.lines

-- the format is 1 or 2
abbrev pub is_version : Script → Bool
is_version s = (s.version == 2) || ((s.version == 1) && list_all is_section_of_one s.sections)

-- at most 64 domains, with 32,768 pages in all
abbrev pub are_domains_within : List DomainLine → Bool
are_domains_within ds = nat_le (length ds) 64 && nat_le (sum_by (λ l. l.pages) ds) 32768

-- at most 64 sections, one of them control, with 8,192 lines and 1,048,576 turns in all
abbrev pub are_sections_within : List Section → Bool
are_sections_within xs =
    nat_le (length xs) 64 && nat_le (count_by (λ x. is_control x.actor) xs) 1
    && nat_le (sum_by (λ x. length x.lines) xs) 8192
    && nat_le (sum_by (λ x. sum_by turns_of x.lines) xs) 1048576

-- each domain line is within its ranges, and no id comes twice
abbrev pub are_lawful_domains : List DomainLine → Bool
are_lawful_domains ds = list_all (λ l. is_domain_id l.id && is_page_count l.pages) ds && are_distinct ds

-- all the rules
abbrev pub is_lawful : Script → Bool
is_lawful s =
    is_version s && are_lawful_domains s.domains && are_domains_within s.domains
    && are_sections_within s.sections && list_all is_lawful_section s.sections
    && list_all (is_known_section s.domains) s.sections
