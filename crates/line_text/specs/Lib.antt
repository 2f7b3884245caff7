pub mod Lines
pub use Rattle.model_kernel.specs as model_kernel
