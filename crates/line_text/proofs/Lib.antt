pub mod Blanks
pub mod Shorts
pub mod Puts
pub use Rattle.model_kernel.proofs as model_kernel_lemmas
