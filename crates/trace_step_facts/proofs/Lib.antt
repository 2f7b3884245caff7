pub mod Clocking
pub mod Cutting
pub mod Recording
pub mod Running
pub mod Wishing
pub use Rattle.plain_runs.proofs.model_births_lemmas
pub use Rattle.plain_runs.proofs.plain_facts_lemmas
pub use Rattle.plain_runs.proofs as plain_runs_lemmas
