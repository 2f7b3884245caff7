pub mod Allowed
pub mod Each
pub mod Lists
pub mod Managed
pub mod Readings
