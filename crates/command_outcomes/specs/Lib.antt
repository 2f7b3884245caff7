pub mod Ends
pub mod Faults
pub mod Seen
pub mod Statuses
pub use Rattle.log_reading.specs.image_blocks
pub use Rattle.script_types.specs.model_kernel
pub use Rattle.script_types.specs as script_types
