pub mod Circles
pub mod Marks
