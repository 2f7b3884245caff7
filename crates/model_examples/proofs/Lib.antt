pub mod Snapshots
pub mod Stepwise
pub mod Choosing
pub mod CutShort
pub mod FullContainer
pub mod SecondRun
pub mod Clash
