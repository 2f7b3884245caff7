pub mod Splits
pub mod Told
