pub mod Parts
pub mod Ran
pub use Rattle.thread_workers.specs.thread_desk
