-- A ring's bytes in its owner's memory: which pages it stands on, and what a write into them is.
use Rattle.std.specs.Prelude.{◌≡◌, ℕ, ◌*◌, ◌/◌, Bool, nat_lt, IsTrue, List, length}
use Rattle.std.specs.List.{list_all}
use Rattle.argo_base.specs.Slots.{is_legal, is_place, page_count}
use Rattle.argo_base.specs.Splice.{splice}
use Rattle.argo_base.specs.declared.ring_key.RingKey.{RingKey}
use Rattle.argo_model.specs.Rules.State.{Ring}
use Rattle.argo_model.specs.Rules.Register.{all_differ}
use Rattle.argo_model.specs.Rules.RingBytes.{laid}

-- each of the pages is one of a memory of so many
abbrev pub are_there : ℕ → List ℕ → Bool
are_there count pages = list_all (λ page. nat_lt page count) pages

-- the memory is this one with these bytes of a ring laid back into its pages
pub record IsLaid (pages base own memory : List ℕ) : Type 0 where
  pub sized : length own ≡ 4096 * length pages
  pub inside : IsTrue (are_there (length base / 4096) pages)
  pub differ : IsTrue (all_differ pages)
  pub same : memory ≡ laid pages own base

-- a memory after another is that with the ring's bytes changed so, and with nothing else changed
abbrev pub Writes : List ℕ → (List ℕ → List ℕ) → List ℕ → List ℕ → Type 0
Writes pages change old new = (base own : List ℕ) → IsLaid pages base own old → IsLaid pages base (change own) new

-- what is always true of a ring: its length is legal, it has the pages for it, once each, and the next message's place is one
-- of its places
pub record IsRing (len tx : ℕ) (pages : List ℕ) : Type 0 where
  pub legal : IsTrue (is_legal len)
  pub counted : length pages ≡ page_count len
  pub place : IsTrue (is_place len tx)
  pub differ : IsTrue (all_differ pages)

-- rings stand on pages of a memory of so many
abbrev pub stand_in : ℕ → List (RingKey × Ring) → Bool
stand_in count rings = list_all (λ e. are_there count e.1.pages) rings

-- a memory after another: the ring's bytes are laid back with these in them, and what is still to be written makes them whole
pub record WritesOn (pages : List ℕ) (base first memory : List ℕ) (at : ℕ) (bytes : List ℕ) (place : ℕ) (rest : List ℕ) : Type 0 where
  pub own : List ℕ
  pub laid_so : IsLaid pages base own memory
  pub whole : splice own place rest ≡ splice first at bytes
