pub mod Cells
pub mod Telling
pub use Rattle.cell_blobs.specs.blob_grammar
pub use Rattle.cell_blobs.specs as cell_blobs
pub use Rattle.cell_blobs.specs.cell_states
pub use Rattle.cell_blobs.specs.image_meaning
pub use Rattle.kernel_invariant.specs as kernel_invariant
pub use Rattle.kernel_invariant.specs.store_books
