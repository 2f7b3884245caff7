pub mod Bodies
pub mod Gates
pub mod Logs
pub mod Reads
pub mod Stages
pub mod Areas
