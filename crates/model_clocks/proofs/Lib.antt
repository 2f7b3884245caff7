pub mod Events
pub mod Cuts
pub mod Runs
pub use Rattle.model_kernel.proofs as model_kernel_lemmas
