pub mod Counting
pub mod Used
pub mod Widths
pub mod Rooms
pub mod Sums
pub mod Kept
pub mod Enough
pub mod Owned
pub mod Next
pub mod Unchanged
pub use Rattle.kernel_invariant.proofs.store_books_lemmas
pub use Rattle.kernel_invariant.proofs as kernel_invariant_lemmas
