pub mod Memory
pub mod MemoryPages
pub mod Pages
pub use Rattle.model_kernel.specs as model_kernel
