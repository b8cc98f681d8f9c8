pub mod BucketLaws
pub mod EditLaws
pub mod EntryLaws
pub mod FirstLaws
pub mod ListingLaws
pub mod ScanLaws
pub mod TableLaws
