mod Kept
mod Narrow
pub mod Small
pub mod Taking
pub mod Following
pub mod Standing
pub mod Opened
pub mod Outliving
