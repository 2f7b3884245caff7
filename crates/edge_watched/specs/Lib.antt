pub mod Handing
pub mod Watching
