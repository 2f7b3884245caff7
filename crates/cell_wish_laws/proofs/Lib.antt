pub mod Founding
pub mod Going
pub mod Recorded
pub use Rattle.cell_states.proofs as cell_states_lemmas
pub use Rattle.model_run_laws.proofs as model_run_laws_lemmas
