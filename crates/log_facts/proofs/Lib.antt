pub mod Through
pub mod Ascending
pub mod InRange
pub mod Reached
pub mod ReadSoFar
pub mod Slots
pub mod Turning
