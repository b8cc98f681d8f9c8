pub mod Flags
pub mod Holding
pub mod NoticeEnds
pub mod RingNames
pub mod SendCauses
pub mod Taken
pub mod Transitions
