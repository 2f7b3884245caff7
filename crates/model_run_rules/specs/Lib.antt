pub mod Newest
pub mod Wishes
pub mod Commits
pub mod Records
pub use Rattle.model_run_laws.specs.model_cut_laws
pub use Rattle.model_run_laws.specs.model_kernel
pub use Rattle.model_run_laws.specs as model_run_laws
