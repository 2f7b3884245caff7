pub mod Committing
pub mod Putting
pub use Rattle.kernel_records.specs.cell_states
pub use Rattle.kernel_records.specs.kernel_record_facts
pub use Rattle.kernel_records.specs as kernel_records
pub use Rattle.kernel_records.specs.store_facts
