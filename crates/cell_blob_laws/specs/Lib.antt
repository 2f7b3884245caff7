pub mod Memories
pub use Rattle.cell_blobs.specs as cell_blobs
