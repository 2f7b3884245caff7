pub mod Flushing
pub mod Committing
pub mod Told
pub mod Snapping
pub mod Keeping
pub use Rattle.cell_wish_laws.specs.act_alone
pub use Rattle.cell_wish_laws.specs.act_calls
pub use Rattle.kernel_record_facts.specs.cell_blobs
pub use Rattle.cell_wish_laws.specs.cell_clocks
pub use Rattle.cell_wish_laws.specs.cell_states
pub use Rattle.cell_wish_laws.specs as cell_wish_laws
pub use Rattle.kernel_block_laws.specs as kernel_block_laws
pub use Rattle.kernel_record_facts.specs as kernel_record_facts
pub use Rattle.page_store.specs.model_kernel
pub use Rattle.cell_wish_laws.specs.model_run_laws
pub use Rattle.cell_wish_laws.specs.page_memory
pub use Rattle.kernel_block_laws.specs.store_books
pub use Rattle.store_snapshots.specs.store_facts
pub use Rattle.store_snapshots.specs as store_snapshots
