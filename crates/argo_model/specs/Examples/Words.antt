-- The words in which worked examples are told: short forms of lines, and texts by lines.
use Rattle.std.specs.Prelude.{ℕ, ◌++◌, true, List, [], ◌∷◌, flat_map}
use Rattle.argo_base.specs.Layout.{addr_bytes, send_addr_bytes, iov_bytes, register_ring_bytes, u64_bytes}
use Rattle.argo_model.specs.declared.scripts.Actor.TheVariants.{Vcpu, Control}
use Rattle.argo_model.specs.declared.scripts.DomainLine.{DomainLine}
use Rattle.argo_model.specs.declared.line.Line.{Line}
use Rattle.argo_model.specs.declared.line.Line.TheVariants.{Store, Op}
use Rattle.argo_model.specs.Runs.Script.{Section}

-- a domain that is on
abbrev pub domain : (id pages : ℕ) → DomainLine
domain id pages = record { id = id; pages = pages; on = true }

-- a section of a domain of the first generation, one of a later generation, and the control section
abbrev pub section : ℕ → List Line → Section
section d lines = record { actor = Vcpu d 1; lines = lines }

abbrev pub section_of_generation : ℕ → ℕ → List Line → Section
section_of_generation generation d lines = record { actor = Vcpu d generation; lines = lines }

abbrev pub control : List Line → Section
control lines = record { actor = Control; lines = lines }

-- registers a ring of one page
abbrev pub register_lines : (port partner len page : ℕ) → List Line
register_lines port partner len page =
    Store 0 (register_ring_bytes port partner 0 len) ∷ Store 0x10 (u64_bytes page) ∷ Op 1 0 0x10 1 0 ∷ []

-- sends the bytes at an address from port 9 of the caller, with type 7
abbrev pub send_from : (at caller to port size : ℕ) → List Line
send_from at caller to port size =
    Store 0x20 (send_addr_bytes (addr_bytes 9 caller 0) (addr_bytes port to 0)) ∷ Store 0x30 (iov_bytes at size 0) ∷ Op 3 0x20 0x30 1 7 ∷ []

-- sends the bytes at 0x100 so
abbrev pub send_lines : (caller to port size : ℕ) → List Line
send_lines caller to port size = send_from 0x100 caller to port size

-- sweeps the caller's rings
abbrev pub notify_line : Line
notify_line = Op 4 0 0 0 0

-- a text by its lines, each with a line feed
abbrev pub text : List (List ℕ) → List ℕ
text lines = flat_map (λ l. l ++ 10 ∷ []) lines
