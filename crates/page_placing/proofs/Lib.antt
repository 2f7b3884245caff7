pub mod Placed
pub mod Written
pub mod Copied
