pub mod Snapshots
pub mod Places
pub mod CutShort
pub mod FullContainer
pub mod SecondRun
pub mod Beyond
pub mod Clash
