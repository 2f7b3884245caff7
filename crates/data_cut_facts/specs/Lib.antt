pub mod Records
pub mod Searches
pub use Rattle.model_cut_laws.specs as model_cut_laws
