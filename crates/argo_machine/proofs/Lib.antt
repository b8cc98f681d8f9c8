mod BookLaws
mod MachineLaws
mod OpenLaws
mod ReplyLaws
pub mod RunLaws
mod StandLaws
pub mod TestLaws
mod TotalsLaws
mod VcpuLaws
