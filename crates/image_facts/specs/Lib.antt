pub mod Bodies
pub mod Checks
pub mod Examples
pub mod Layout
pub mod Logs
pub use Rattle.model_kernel.specs as model_kernel
