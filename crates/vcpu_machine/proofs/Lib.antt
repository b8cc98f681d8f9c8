pub mod GoingLaws
pub mod LineLaws
pub mod LookLaws
pub mod ReceivingLaws
pub mod SeenLaws
pub mod TurnLaws
pub mod VcpuLaws
