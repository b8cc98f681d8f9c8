pub mod BodyLaws
pub mod EndLaws
pub mod FetchLaws
pub mod UnderWayLaws
pub mod WordLaws
