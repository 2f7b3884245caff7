pub use Rattle.log_reading.specs.image_blocks
pub use Rattle.open_facts.specs.image_meaning
pub use Rattle.open_facts.specs.kernel_block_laws
pub use Rattle.open_facts.specs.kernel_invariant
pub use Rattle.open_facts.specs.kernel_laws
pub use Rattle.open_facts.specs.kernel_record_facts
pub use Rattle.open_facts.specs.kernel_views
pub use Rattle.log_reading.specs.log_facts
pub use Rattle.open_facts.specs.model_sound_runs
pub use Rattle.open_facts.specs as open_facts
pub use Rattle.open_facts.specs.store_books
pub use Rattle.open_facts.specs.store_facts
pub use Rattle.open_facts.specs.store_snapshots
pub use Rattle.open_facts.specs.table_laws
