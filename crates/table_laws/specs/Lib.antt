pub mod Tables
pub mod Lending
pub mod Steps
pub mod Quiet
pub use Rattle.cell_steps.specs.act_alone
pub use Rattle.cell_step_laws.specs.act_calls
pub use Rattle.cell_blob_laws.specs as cell_blob_laws
pub use Rattle.cell_blob_laws.specs.cell_blobs
pub use Rattle.cell_steps.specs.cell_calls
pub use Rattle.cell_steps.specs.cell_clocks
pub use Rattle.cell_steps.specs.cell_looks
pub use Rattle.cell_steps.specs.cell_plans
pub use Rattle.cell_steps.specs.cell_states
pub use Rattle.cell_steps.specs as cell_steps
pub use Rattle.cell_step_laws.specs.cell_wish_laws
pub use Rattle.cell_steps.specs.data_atlas_facts
pub use Rattle.cell_steps.specs.edge_disk
pub use Rattle.model_sound_states.specs as model_sound_states
pub use Rattle.cell_steps.specs.page_memory
