pub mod Board
pub mod Books
pub mod Journal
pub mod Segments
