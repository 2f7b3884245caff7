pub mod FileLaws
pub mod Files
pub mod Memory
pub mod Reading
pub mod Standard
pub mod Streams
