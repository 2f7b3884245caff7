pub mod Causes
pub mod Following
pub mod Outliving
pub mod Standing
pub use Rattle.node_shipments.specs as node_shipments
pub use Rattle.kernel_views.specs.store_snapshots
