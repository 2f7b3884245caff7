pub mod Returned
pub mod Placed
