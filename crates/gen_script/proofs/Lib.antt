pub mod MadeLaws
pub mod Lawful
