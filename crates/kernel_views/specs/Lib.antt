pub mod Views
pub mod Snaps
pub mod Events
pub use Rattle.kernel_records.specs.act_alone
pub use Rattle.kernel_records.specs.act_calls
pub use Rattle.table_laws.specs.cell_blob_laws
pub use Rattle.kernel_records.specs.cell_blobs
pub use Rattle.kernel_records.specs.cell_clocks
pub use Rattle.kernel_records.specs.cell_states
pub use Rattle.kernel_records.specs.cell_wish_laws
pub use Rattle.kernel_laws.specs.image_meaning
pub use Rattle.kernel_records.specs.kernel_block_laws
pub use Rattle.kernel_laws.specs.kernel_invariant
pub use Rattle.kernel_laws.specs as kernel_laws
pub use Rattle.kernel_records.specs.kernel_record_facts
pub use Rattle.kernel_records.specs as kernel_records
pub use Rattle.kernel_records.specs.model_kernel
pub use Rattle.table_laws.specs.model_sound_states
pub use Rattle.kernel_laws.specs.store_books
pub use Rattle.kernel_records.specs.store_facts
pub use Rattle.kernel_records.specs.store_snapshots
pub use Rattle.table_laws.specs as table_laws
