pub mod Trying
pub use Rattle.thread_locks.specs.thread_items.thread_desk
