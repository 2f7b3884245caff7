pub mod Parts
pub mod Runs
pub use Rattle.kernel_records.specs.kernel_record_facts
pub use Rattle.node_records.specs as node_records
pub use Rattle.node_records.specs.kernel_invariant
pub use Rattle.node_records.specs.node_store
pub use Rattle.kernel_records.specs.store_snapshots
pub use Rattle.kernel_records.specs as kernel_records
