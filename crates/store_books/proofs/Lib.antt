pub mod Keeping
pub mod Owners
pub use Rattle.image_blocks.proofs as image_blocks_lemmas
pub use Rattle.image_blocks.proofs.image_facts_lemmas
pub use Rattle.image_meaning.proofs as image_meaning_lemmas
pub use Rattle.log_turn.proofs.log_facts_lemmas
pub use Rattle.log_turn.proofs as log_turn_lemmas
pub use Rattle.image_meaning.proofs.model_cut_laws_lemmas
pub use Rattle.image_blocks.proofs.model_kernel_lemmas
