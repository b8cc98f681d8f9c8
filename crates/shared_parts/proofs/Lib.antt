pub mod HomeLaws
pub mod RestartLaws
pub mod SeatLaws
pub mod Standings
pub mod Starts
