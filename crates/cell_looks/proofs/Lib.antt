pub mod Short
pub mod Stored
pub mod Actors
pub mod LookSteps
pub mod Somehow
pub mod AtWord
pub use Rattle.cell_states.proofs.cell_clocks_lemmas
pub use Rattle.cell_states.proofs as cell_states_lemmas
