pub mod Counted
pub mod Orders
pub mod Parting
pub mod Sent
