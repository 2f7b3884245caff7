pub mod Fit
pub mod Own
