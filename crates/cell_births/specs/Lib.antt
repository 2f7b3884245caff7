pub mod Bearing
pub use Rattle.act_alone.specs as act_alone
pub use Rattle.script_fits.specs.act_calls
pub use Rattle.cell_clocks.specs as cell_clocks
pub use Rattle.cell_newborns.specs as cell_newborns
pub use Rattle.cell_wish_laws.specs.cell_states
pub use Rattle.cell_wish_laws.specs as cell_wish_laws
pub use Rattle.script_fits.specs.model_births
pub use Rattle.cell_wish_laws.specs.page_memory
pub use Rattle.script_fits.specs as script_fits
