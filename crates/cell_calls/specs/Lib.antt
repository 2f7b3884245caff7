pub mod Mapping
pub mod Besides
pub use Rattle.cell_states.specs.act_calls
pub use Rattle.cell_states.specs as cell_states
