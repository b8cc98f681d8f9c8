-- The three ledgers of a board: of room for entries, of accepted sends and of their bytes.
use Rattle.std.specs.Prelude.{ℕ, ◌+◌}

-- the totals of the three books
pub record Amounts : Type 0 where
  pub room : ℕ
  pub sends : ℕ
  pub loads : ℕ

abbrev pub amounts : ℕ → ℕ → ℕ → Amounts
amounts room sends loads = record { room = room; sends = sends; loads = loads }

-- so many parts of each ledger, with what they have of it
pub record Portion : Type 0 where
  pub parts : ℕ
  pub room : ℕ
  pub sends : ℕ
  pub loads : ℕ

abbrev pub portion : ℕ → ℕ → ℕ → ℕ → Portion
portion parts room sends loads = record { parts = parts; room = room; sends = sends; loads = loads }

-- two portions in one hand
abbrev pub joined : Portion → Portion → Portion
joined p q = portion (p.parts + q.parts) (p.room + q.room) (p.sends + q.sends) (p.loads + q.loads)
