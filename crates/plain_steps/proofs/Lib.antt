pub use Rattle.plain_facts.proofs.model_births_lemmas
pub use Rattle.model_kernel.proofs as model_kernel_lemmas
pub use Rattle.plain_facts.proofs.model_serial_turns_lemmas
pub use Rattle.plain_facts.proofs as plain_facts_lemmas
