pub mod Held
pub use Rattle.model_kernel.proofs as model_kernel_lemmas
