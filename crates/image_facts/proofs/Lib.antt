pub mod Filling
pub mod FirstBlock
pub mod Firsts
pub mod Fits
pub mod LastVersions
pub mod Spelling
pub mod Worked
pub use Rattle.model_kernel.proofs as model_kernel_lemmas
