pub mod Looks
pub mod Rows
pub use Rattle.thread_stables.specs.kernel_core_facts
pub use Rattle.thread_desk_looks.specs.thread_desk
pub use Rattle.thread_desk_looks.specs as thread_desk_looks
pub use Rattle.thread_stables.specs.thread_looks
pub use Rattle.thread_stables.specs.thread_settling
pub use Rattle.thread_stables.specs.thread_commits
pub use Rattle.thread_stables.specs.thread_cell_steps
pub use Rattle.thread_desk_looks.specs.kernel_core
