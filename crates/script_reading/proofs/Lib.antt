pub mod Each
pub mod Orders
pub mod Whole
