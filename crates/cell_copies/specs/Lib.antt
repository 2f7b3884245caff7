pub mod Copying
pub mod Refusals
pub use Rattle.cell_births.specs as cell_births
pub use Rattle.model_copies.specs as model_copies
