pub mod Placing
pub mod Writing
pub mod Copying
pub use Rattle.page_store.specs as page_store
