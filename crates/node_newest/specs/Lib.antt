pub mod Reading
pub mod Newest
pub use Rattle.node_lending.specs.kernel_run_facts
pub use Rattle.node_lending.specs.kernel_core
pub use Rattle.node_shipments.specs as node_shipments
pub use Rattle.node_shipments.specs.node_records
