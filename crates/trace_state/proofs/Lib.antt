mod Joining
pub mod Finding
