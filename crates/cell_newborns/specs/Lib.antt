pub mod Bearing
pub use Rattle.cell_states.specs.cell_clocks
pub use Rattle.cell_states.specs as cell_states
pub use Rattle.data_atlas.specs.data_atlas_facts
pub use Rattle.cell_states.specs.page_memory
