pub mod Stamps
pub mod Cells
pub mod Steps
pub mod Births
pub mod States
pub mod Empty
pub use Rattle.model_sound_runs.proofs.model_kernel_lemmas
pub use Rattle.model_sound_runs.proofs.model_run_laws_lemmas
pub use Rattle.model_sound_runs.proofs as model_sound_runs_lemmas
pub use Rattle.model_sound_runs.proofs.model_sound_steps_lemmas
