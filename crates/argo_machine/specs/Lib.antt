pub mod Books
pub mod Kept
pub mod Machine
pub mod Replies
pub mod Vcpus
