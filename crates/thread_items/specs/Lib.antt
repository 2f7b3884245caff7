pub mod Answers
pub mod Items
pub mod Places
pub use Rattle.thread_desk_stables.specs.thread_desk
pub use Rattle.thread_desk_stables.specs.kernel_core
pub use Rattle.thread_desk_stables.specs.thread_settling
