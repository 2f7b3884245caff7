pub mod Births
pub use Rattle.cell_births.specs.act_calls
pub use Rattle.cell_births.specs.cell_clocks
pub use Rattle.table_steps.specs.cell_looks
pub use Rattle.table_steps.specs.cell_plans
pub use Rattle.cell_births.specs.cell_states
pub use Rattle.cell_births.specs.cell_wish_laws
pub use Rattle.cell_births.specs.model_births
pub use Rattle.script_types.specs.model_kernel
pub use Rattle.cell_births.specs.page_memory
pub use Rattle.table_steps.specs.page_store
pub use Rattle.script_types.specs as script_types
pub use Rattle.table_steps.specs.table_laws
pub use Rattle.table_steps.specs as table_steps
