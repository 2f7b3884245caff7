pub mod Courses
pub mod Tallies
