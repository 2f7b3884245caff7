pub mod Calls
pub mod Ready
pub mod Allowed
pub mod Beside
pub mod Shown
