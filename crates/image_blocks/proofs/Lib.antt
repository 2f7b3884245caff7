pub mod Rest
pub mod Reading
pub mod Opening
pub mod Ranges
pub use Rattle.image_facts.proofs as image_facts_lemmas
pub use Rattle.image_facts.proofs.model_kernel_lemmas
