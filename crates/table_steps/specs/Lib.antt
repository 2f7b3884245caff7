pub mod Wanting
pub use Rattle.table_laws.specs.act_alone
pub use Rattle.table_laws.specs.cell_blob_laws
pub use Rattle.table_laws.specs.cell_blobs
pub use Rattle.table_laws.specs.cell_calls
pub use Rattle.table_laws.specs.cell_clocks
pub use Rattle.table_laws.specs.cell_looks
pub use Rattle.table_laws.specs.cell_plans
pub use Rattle.table_laws.specs.cell_states
pub use Rattle.table_laws.specs.cell_steps
pub use Rattle.table_laws.specs.cell_wish_laws
pub use Rattle.table_laws.specs.model_sound_states
pub use Rattle.table_laws.specs.page_memory
pub use Rattle.page_store.specs as page_store
pub use Rattle.table_laws.specs as table_laws
