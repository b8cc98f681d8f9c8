pub mod Buckets
pub mod Edits
pub mod Lends
pub mod Listing
pub mod Rows
pub mod Scans
pub mod Serials
