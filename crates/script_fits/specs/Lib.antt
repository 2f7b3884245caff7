pub mod NextTables
pub use Rattle.act_atlas_laws.specs.act_calls
pub use Rattle.model_births.specs as model_births
