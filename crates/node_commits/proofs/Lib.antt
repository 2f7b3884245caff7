pub mod Delivering
pub mod Standing
pub use Rattle.kernel_block_laws.proofs.kernel_invariant_lemmas
pub use Rattle.kernel_block_laws.proofs as kernel_block_laws_lemmas
