mod BoardLaws
mod FlagLaws
mod SegmentLaws
