pub mod Room
pub mod Owning
pub use Rattle.kernel_invariant.specs.image_blocks
pub use Rattle.kernel_invariant.specs.image_facts
pub use Rattle.kernel_invariant.specs as kernel_invariant
pub use Rattle.kernel_invariant.specs.store_books
