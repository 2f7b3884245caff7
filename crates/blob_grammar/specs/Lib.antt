pub mod Spelling
pub mod Shapes
pub mod Forms
pub mod Places
pub mod Laws
pub mod Examples
pub use Rattle.model_kernel.specs as model_kernel
