pub mod Ending
pub mod Ruling
pub mod Verdicts
pub use Rattle.command_promises.proofs as command_promises_lemmas
