pub mod Leaving
pub mod Lines
pub mod Mirrors
pub mod Shipping
pub mod Stops
