pub mod Openings
pub mod Rows
pub use Rattle.thread_items.specs as thread_items
