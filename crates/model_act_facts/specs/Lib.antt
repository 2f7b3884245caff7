pub mod Readiness
pub mod Itself
pub mod Loci
