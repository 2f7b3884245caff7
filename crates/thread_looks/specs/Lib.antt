pub mod Behind
pub mod Making
pub mod Looking
pub mod Stores
pub use Rattle.kernel_core_facts.specs as kernel_core_facts
pub use Rattle.thread_cell_steps.specs as thread_cell_steps
pub use Rattle.thread_commits.specs as thread_commits
pub use Rattle.kernel_core.specs as kernel_core
