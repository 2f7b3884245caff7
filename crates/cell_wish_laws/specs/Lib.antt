pub mod Founded
pub use Rattle.cell_states.specs.act_alone
pub use Rattle.cell_states.specs.act_calls
pub use Rattle.cell_states.specs.cell_clocks
pub use Rattle.cell_states.specs as cell_states
pub use Rattle.model_run_laws.specs.model_cut_laws
pub use Rattle.model_run_laws.specs as model_run_laws
pub use Rattle.cell_states.specs.page_memory
