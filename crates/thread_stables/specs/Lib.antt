pub use Rattle.thread_looks.specs as thread_looks
pub use Rattle.thread_settling.specs as thread_settling
pub use Rattle.thread_looks.specs.thread_cell_steps
pub use Rattle.kernel_core_facts.specs as kernel_core_facts
pub use Rattle.thread_settling.specs.thread_commits
