pub mod Endings
pub mod SeenDisks
