pub mod Touching
pub use Rattle.act_atlas_laws.specs.act_calls
pub use Rattle.cell_wish_laws.specs as cell_wish_laws
