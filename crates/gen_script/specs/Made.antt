-- The scripts that a number makes.
use Rattle.std.specs.Prelude.{ℕ, zero, suc, ◌+◌, ◌-◌, ◌*◌, ◌%◌, List, [], ◌∷◌, ◌++◌, map, replicate}
use Rattle.std.specs.List.{flat_map, range_with_len}
use Rattle.argo_base.specs.Generator.{number_after, drawn}
use Rattle.argo_base.specs.Layout.{addr_bytes, send_addr_bytes, iov_bytes}
use Rattle.argo_base.specs.Limits.{page_bytes, header_bytes}
use Rattle.argo_base.specs.Match.{wildcard}
use Rattle.argo_model.specs.declared.line.Line.{Line}
use Rattle.argo_model.specs.declared.line.Line.TheVariants.{Store, Op, Recv}
use Rattle.argo_model.specs.Runs.Script.{Section, Script}
use Rattle.argo_model.specs.Examples.Words.{domain, section, register_lines, notify_line}

-- the domains, each of which has one section, and the rounds of a section
unfoldable pub domain_count : ℕ
domain_count = 8

unfoldable pub round_count : ℕ
round_count = 200

-- the slot bytes of a domain's ring: what its one page has behind the ring's header
abbrev pub ring_bytes : ℕ
ring_bytes = page_bytes - header_bytes

-- the first lines of domain d: a ring for all senders on its page 1, and the bytes that it will send, on its page 2
abbrev pub opening_lines : ℕ → List Line
opening_lines d = register_lines 1 wildcard ring_bytes 1 ++ Store 0x2000 (replicate 64 d) ∷ []

-- a round: domain d sends so many bytes to another with the round's number as their type, takes a message, and sweeps its rings
abbrev pub round_lines : (d to size round : ℕ) → List Line
round_lines d to size round =
    Store 0x20 (send_addr_bytes (addr_bytes 1 d 0) (addr_bytes 1 to 0)) ∷ Store 0x30 (iov_bytes 0x2000 size 0) ∷ Op 3 0x20 0x30 1 round
    ∷ Recv 1 ring_bytes ∷ notify_line ∷ []

-- the round's first draw says to which of the domains it sends, and its second how much
abbrev pub drawn_lines : (d first second round : ℕ) → List Line
drawn_lines d first second round = round_lines d (1 + first % domain_count) (second % 1024) round

-- round k of domain d, counted from 1, where the generator stands at x before the first round
abbrev pub round_from : ℕ → ℕ → ℕ → List Line
round_from x d k = drawn_lines d (drawn (number_after x (2 * k - 1))) (drawn (number_after x (2 * k))) k

-- the lines of domain d with so many rounds
abbrev pub lines_from : ℕ → ℕ → ℕ → List Line
lines_from x d rounds = opening_lines d ++ flat_map (round_from x d) (range_with_len 1 rounds)

-- the section of domain d: the generator goes on where the sections before it left it
abbrev pub section_of : ℕ → ℕ → Section
section_of n d = section d (lines_from (number_after n (2 * round_count * (d - 1))) d round_count)

-- domains 1 to 8 with three pages each, and their sections in this order
abbrev pub made : ℕ → Script
made n =
    record {
      version = 1;
      domains = map (λ d. domain d 3) (range_with_len 1 domain_count);
      sections = map (section_of n) (range_with_len 1 domain_count);
    }
