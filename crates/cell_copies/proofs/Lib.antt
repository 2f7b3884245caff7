pub mod Regions
pub mod Words
pub mod Copies
pub mod Refusing
