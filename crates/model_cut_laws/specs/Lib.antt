pub mod Records
pub mod Agreeing
pub use Rattle.model_kernel.specs.base_types
pub use Rattle.model_kernel.specs as model_kernel
