pub mod Each
pub mod Allowed
