pub mod Lacking
pub mod Parts
pub mod Pieces
pub mod Recording
pub mod Short
pub mod Snapping
pub mod Stabilising
pub mod Steady
pub mod Through
pub use Rattle.table_steps.specs.cell_blobs
pub use Rattle.table_steps.specs.cell_states
pub use Rattle.table_steps.specs.cell_wish_laws
pub use Rattle.kernel_book_laws.specs.kernel_block_laws
pub use Rattle.kernel_book_laws.specs as kernel_book_laws
pub use Rattle.kernel_book_laws.specs.kernel_invariant
pub use Rattle.kernel_book_laws.specs.kernel_laws
pub use Rattle.kernel_book_laws.specs.kernel_record_facts
pub use Rattle.kernel_book_laws.specs.kernel_records
pub use Rattle.kernel_book_laws.specs.kernel_views
pub use Rattle.image_facts.specs.model_kernel
pub use Rattle.model_serial_turns.specs.model_serial
pub use Rattle.model_serial_turns.specs as model_serial_turns
pub use Rattle.kernel_book_laws.specs.store_books
pub use Rattle.kernel_book_laws.specs.store_facts
pub use Rattle.kernel_book_laws.specs.store_snapshots
pub use Rattle.table_steps.specs.table_laws
