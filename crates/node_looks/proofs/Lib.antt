mod Flags
pub mod Looks
mod Opened
