pub mod Drawing
pub mod Courses
