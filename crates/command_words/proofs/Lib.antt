mod Flags
mod Walks
mod Words
pub mod Worded
