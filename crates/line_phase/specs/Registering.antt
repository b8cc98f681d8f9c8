-- What follows the fetches of register_ring and unregister_ring.
use Rattle.std.specs.Prelude.{ℕ, ◌*◌, Bool, ◌&&◌, ◌==◌, List, IsTrue}
use Rattle.argo_base.specs.Slots.{is_legal, page_count}
use Rattle.argo_base.specs.Layout.{numbers_at}
use Rattle.argo_abi.specs.declared.register_ring.RegisterRing.{RegisterRing}
use Rattle.argo_model.specs.declared.action.Action.{Action}
use Rattle.argo_model.specs.declared.action.Action.TheVariants.{Register}
use Rattle.line_phase.specs.declared.reads.NewRing.{NewRing}
use Rattle.line_phase.specs.declared.reads.RegisterRead.{RegisterRead}
use Rattle.line_phase.specs.declared.reads.RegisterRead.TheVariants.{Old, Head, Pages}
use Rattle.argo_model.specs.Programs.Asks.{Rests, ask, say_done}
use Rattle.argo_model.specs.Programs.Register.{register_head, unregister_head}

-- the act that registers a ring on these pages
abbrev pub register_on : NewRing → List ℕ → Action
register_on ring pages = Register ring.port ring.partner ring.len pages ring.fail_exist

-- the pad is 0, the length legal, and this the count of its pages
abbrev pub is_lawful_head : ℕ → RegisterRing → Bool
is_lawful_head count head = (head.pad == 0) && is_legal head.len && (count == page_count head.len)

-- what follows the bytes
abbrev pub after_register_read : RegisterRead → List ℕ → Rests
after_register_read Old head os = unregister_head head os
after_register_read (Head a2 a3 a4) head os = register_head a2 a3 a4 head os
after_register_read (Pages ring) list os = ask (register_on ring (numbers_at list (page_count ring.len))) say_done os

-- how many bytes there are
abbrev pub register_size : RegisterRead → ℕ
register_size Old = 8
register_size (Head a2 a3 a4) = 12
register_size (Pages ring) = 8 * page_count ring.len

-- a page list is one of a ring of a legal length
abbrev pub IsRegisterRead : RegisterRead → Type 0
IsRegisterRead Old = Unit {0}
IsRegisterRead (Head a2 a3 a4) = Unit {0}
IsRegisterRead (Pages ring) = IsTrue (is_legal ring.len)

-- how many actions follow the bytes at most: a page list has at most 10 pieces
abbrev pub most_after_register : RegisterRead → ℕ
most_after_register Old = 1
most_after_register (Head a2 a3 a4) = 11
most_after_register (Pages ring) = 1
