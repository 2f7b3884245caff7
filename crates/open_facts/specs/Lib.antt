pub mod Images
pub mod Keeping
pub mod Opened
pub use Rattle.table_opened.specs.cell_states
pub use Rattle.table_opened.specs.image_chosen_facts
pub use Rattle.table_opened.specs.image_fits
pub use Rattle.table_opened.specs.image_meaning
pub use Rattle.kernel_views.specs.kernel_block_laws
pub use Rattle.table_opened.specs.kernel_invariant
pub use Rattle.kernel_views.specs.kernel_laws
pub use Rattle.table_opened.specs.kernel_record_facts
pub use Rattle.kernel_views.specs as kernel_views
pub use Rattle.table_opened.specs.model_sound_runs
pub use Rattle.table_opened.specs.store_books
pub use Rattle.kernel_views.specs.store_facts
pub use Rattle.kernel_views.specs.store_snapshots
pub use Rattle.table_opened.specs.table_laws
