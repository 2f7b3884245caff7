pub mod Beginnings
pub mod Counting
pub mod Drawing
pub mod Holding
pub mod Joining
pub mod Splitting
pub mod Within
