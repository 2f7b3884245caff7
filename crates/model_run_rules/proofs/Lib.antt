pub mod Counts
pub mod Fresh
pub mod Flags
pub mod Wishes
pub mod Fullness
pub mod Commits
pub mod Records
pub mod Ascending
pub mod CutStates
pub mod Single
pub use Rattle.model_run_laws.proofs.model_cut_laws_lemmas
pub use Rattle.model_run_laws.proofs.model_kernel_lemmas
pub use Rattle.model_run_laws.proofs as model_run_laws_lemmas
