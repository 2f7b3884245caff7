mod Verdicts
pub use Rattle.image_blocks.proofs as image_blocks_lemmas
pub use Rattle.image_blocks.proofs.image_facts_lemmas
pub use Rattle.log_facts.proofs as log_facts_lemmas
