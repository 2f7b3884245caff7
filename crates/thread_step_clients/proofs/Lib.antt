pub mod Back
pub mod Named
pub mod Stepped
