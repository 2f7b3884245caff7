pub mod Held
pub mod Opened
pub use Rattle.table_laws.specs.cell_blob_laws
pub use Rattle.kernel_record_facts.specs.cell_states
pub use Rattle.data_blocks.specs as data_blocks
pub use Rattle.image_chosen.specs.image_blocks
pub use Rattle.image_chosen.specs as image_chosen
pub use Rattle.image_chosen.specs.image_chosen_facts
pub use Rattle.image_chosen.specs.image_fits
pub use Rattle.image_state_laws.specs.image_meaning
pub use Rattle.kernel_record_facts.specs.kernel_invariant
pub use Rattle.kernel_record_facts.specs as kernel_record_facts
pub use Rattle.image_chosen.specs.log_facts
pub use Rattle.image_chosen.specs.log_reading
pub use Rattle.cell_clocks.specs.model_kernel
pub use Rattle.image_state_laws.specs.model_sound_runs
pub use Rattle.kernel_record_facts.specs.store_books
pub use Rattle.table_laws.specs as table_laws
