pub mod Plans
pub use Rattle.act_look.specs as act_look
pub use Rattle.cell_calls.specs as cell_calls
