pub use Rattle.open_facts.proofs.image_state_laws_lemmas
pub use Rattle.open_facts.proofs.kernel_laws_lemmas
pub use Rattle.open_facts.proofs as open_facts_lemmas
pub use Rattle.open_facts.proofs.store_facts_lemmas
