pub mod Going
pub mod Opening
pub use Rattle.image_state_laws.specs.image_blocks
pub use Rattle.image_state_laws.specs.image_facts
pub use Rattle.image_state_laws.specs.image_meaning
pub use Rattle.kernel_invariant.specs as kernel_invariant
pub use Rattle.image_state_laws.specs.model_cut_laws
pub use Rattle.kernel_invariant.specs.store_books
