pub mod WordLemmas
pub mod WroteLemmas
pub mod HexLemmas
pub mod RowLaws
