pub mod Closing
pub mod Fitting
