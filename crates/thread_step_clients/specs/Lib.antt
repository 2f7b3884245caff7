pub mod Naming
pub use Rattle.thread_cell_steps.specs as thread_cell_steps
