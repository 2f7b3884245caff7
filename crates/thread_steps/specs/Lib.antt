pub mod Lending
pub mod Stepping
pub use Rattle.table_steps.specs.act_alone
pub use Rattle.table_steps.specs.cell_calls
pub use Rattle.table_steps.specs.cell_looks
pub use Rattle.table_steps.specs.cell_plans
pub use Rattle.table_steps.specs.cell_states
pub use Rattle.table_steps.specs.cell_steps
pub use Rattle.page_store.specs as page_store
pub use Rattle.table_laws.specs as table_laws
