pub mod EndLaws
pub mod TextLaws
pub mod WordLaws
