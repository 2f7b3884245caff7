pub mod Passes
pub mod Values
