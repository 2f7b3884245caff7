pub mod Layout
pub mod Checks
pub mod Logs
pub use Rattle.base_types.specs as base_types
pub use Rattle.edge_disk.specs as edge_disk
pub use Rattle.image_facts.specs as image_facts
pub use Rattle.image_facts.specs.model_kernel
