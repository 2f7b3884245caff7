pub mod Zeros
pub mod Newborns
pub mod BirthSteps
pub mod NoNumbers
pub use Rattle.cell_states.proofs as cell_states_lemmas
