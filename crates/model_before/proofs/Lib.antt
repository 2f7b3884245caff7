pub mod ClosedParts
pub mod Touching
pub mod Pasts
