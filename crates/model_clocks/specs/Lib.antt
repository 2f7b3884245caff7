pub mod Alike
pub use Rattle.model_kernel.specs as model_kernel
