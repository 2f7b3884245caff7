pub mod Keeping
pub mod Recording
pub mod Standing
pub use Rattle.data_cut_facts.specs as data_cut_facts
