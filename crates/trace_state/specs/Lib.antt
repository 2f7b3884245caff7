pub mod Clocks
pub mod Cuts
pub mod Flags
