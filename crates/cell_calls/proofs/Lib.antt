pub mod MapSteps
pub mod Wants
pub mod Pairs
pub mod BesideSteps
pub mod Extents
pub mod Touching
