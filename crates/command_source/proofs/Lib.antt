pub mod Stopping
pub mod Whole
pub use Rattle.command_outcomes.proofs as command_outcomes_lemmas
