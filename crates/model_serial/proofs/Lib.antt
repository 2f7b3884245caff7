pub mod Calm
pub mod Openings
pub mod Histories
pub mod Rounds
pub use Rattle.model_births.proofs as model_births_lemmas
pub use Rattle.model_births.proofs.model_kernel_lemmas
pub use Rattle.model_births.proofs.model_run_laws_lemmas
pub use Rattle.model_births.proofs.model_sound_runs_lemmas
pub use Rattle.model_births.proofs.model_sound_steps_lemmas
