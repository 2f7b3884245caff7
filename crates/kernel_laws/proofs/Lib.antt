pub mod Marking
pub mod Going
pub mod Snaps
pub mod Opening
pub mod Starting
pub mod Numbers
pub mod Somes
pub use Rattle.kernel_invariant.proofs as kernel_invariant_lemmas
pub use Rattle.kernel_invariant.proofs.store_books_lemmas
