pub mod Shipments
pub use Rattle.kernel_record_facts.specs.cell_blobs
pub use Rattle.kernel_record_facts.specs.kernel_invariant
pub use Rattle.node_store.specs as node_store
