pub mod Ascending
pub mod Fronts
pub mod Lowering
pub use Rattle.model_cut_laws.proofs as model_cut_laws_lemmas
