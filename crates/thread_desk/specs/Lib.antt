pub use Rattle.kernel_run_facts.specs.Alongs
pub mod Desks
pub mod Sights
pub use Rattle.kernel_core.specs as kernel_core
pub use Rattle.kernel_core.specs.kernel_core_facts
pub use Rattle.thread_cells.specs as thread_cells
pub use Rattle.table_laws.specs as table_laws
