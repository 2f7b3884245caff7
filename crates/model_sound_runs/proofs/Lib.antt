pub mod Acting
pub mod Ranges
pub mod Tables
pub mod TableEdges
pub mod Found
pub mod Grown
pub mod Births
pub mod Runs
pub mod Standing
pub mod Naming
pub mod Counting
pub mod Lengths
pub mod Kept
pub use Rattle.model_sound_steps.proofs.model_circles_lemmas
pub use Rattle.script_types.proofs.model_kernel_lemmas
pub use Rattle.model_run_laws.proofs as model_run_laws_lemmas
pub use Rattle.model_sound_steps.proofs as model_sound_steps_lemmas
