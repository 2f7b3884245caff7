pub mod Fields
pub mod Meaning
pub mod Ordered
pub mod Reading
pub mod Strings
