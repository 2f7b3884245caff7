pub mod Scripts
pub mod Rules
pub mod Refusals
pub use Rattle.base_types.specs as base_types
pub use Rattle.model_kernel.specs as model_kernel
