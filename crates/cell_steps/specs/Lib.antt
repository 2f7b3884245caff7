pub mod Advances
pub use Rattle.cell_looks.specs.act_alone
pub use Rattle.cell_looks.specs.act_look
pub use Rattle.base_types.specs as base_types
pub use Rattle.cell_plans.specs.cell_calls
pub use Rattle.cell_looks.specs.cell_clocks
pub use Rattle.cell_looks.specs as cell_looks
pub use Rattle.cell_newborns.specs as cell_newborns
pub use Rattle.cell_plans.specs as cell_plans
pub use Rattle.cell_looks.specs.cell_states
pub use Rattle.cell_newborns.specs.data_atlas_facts
pub use Rattle.cell_looks.specs.data_frames
pub use Rattle.cell_looks.specs.edge_disk
pub use Rattle.cell_looks.specs.data_stamps
pub use Rattle.model_acts.specs as model_acts
pub use Rattle.page_store.specs.model_kernel
pub use Rattle.cell_looks.specs.page_memory
pub use Rattle.page_store.specs as page_store
