pub mod KnownNames
pub mod Growing
pub mod Ends
pub mod Ahead
pub mod Clashing
pub mod Reasons
pub use Rattle.model_sound_runs.proofs.model_kernel_lemmas
pub use Rattle.model_sound_runs.proofs.model_run_laws_lemmas
pub use Rattle.model_sound_runs.proofs as model_sound_runs_lemmas
pub use Rattle.model_sound_runs.proofs.model_sound_steps_lemmas
