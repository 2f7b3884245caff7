pub mod Joins
pub mod Filters
pub use Rattle.model_kernel.proofs as model_kernel_lemmas
