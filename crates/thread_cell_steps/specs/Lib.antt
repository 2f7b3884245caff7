pub mod Advancing
pub use Rattle.thread_cells.specs as thread_cells
pub use Rattle.thread_steps.specs as thread_steps
pub use Rattle.table_laws.specs as table_laws
pub use Rattle.table_steps.specs as table_steps
pub use Rattle.table_laws.specs.cell_steps
