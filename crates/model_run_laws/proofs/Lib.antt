pub mod Writing
pub mod Wishes
pub mod Places
pub mod Cuts
pub mod Few
pub mod Starts
pub mod Tellings
pub use Rattle.model_cut_laws.proofs as model_cut_laws_lemmas
pub use Rattle.model_cut_laws.proofs.model_kernel_lemmas
