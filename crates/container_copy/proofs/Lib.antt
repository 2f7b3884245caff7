pub mod Facing
pub mod Opened
pub mod Starting
pub mod Lent
pub mod Ending
pub use Rattle.kernel_invariant.proofs.image_meaning_lemmas
