mod Fitted
pub use Rattle.command_promises.proofs as command_promises_lemmas
