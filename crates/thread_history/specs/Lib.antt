pub mod Entries
pub mod Examples
pub mod Given
pub mod Numbers
pub mod Quiet
pub mod Rules
pub mod Seats
pub mod Sides
