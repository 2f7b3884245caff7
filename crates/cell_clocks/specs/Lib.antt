pub mod Clocks
pub use Rattle.data_stamps.specs as data_stamps
pub use Rattle.model_kernel.specs as model_kernel
