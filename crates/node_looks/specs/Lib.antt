pub mod Counting
pub mod Looks
pub use Rattle.kernel_watchers.specs as kernel_watchers
pub use Rattle.kernel_core.specs as kernel_core
