pub mod Calls
pub mod Words
pub use Rattle.data_frames.specs as data_frames
pub use Rattle.page_store.specs as page_store
pub use Rattle.data_blocks.specs.edge_disk
