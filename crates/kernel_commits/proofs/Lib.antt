pub mod Answering
pub mod Wishing
pub mod Stops
pub mod Along
pub mod Parting
pub mod Fitting
pub mod Telling
pub use Rattle.kernel_commit_facts.proofs.kernel_block_laws_lemmas
pub use Rattle.kernel_commit_facts.proofs.kernel_book_laws_lemmas
pub use Rattle.kernel_commit_facts.proofs as kernel_commit_facts_lemmas
pub use Rattle.kernel_commit_facts.proofs.kernel_laws_lemmas
pub use Rattle.kernel_commit_facts.proofs.kernel_views_lemmas
pub use Rattle.kernel_commit_facts.proofs.model_serial_lemmas
pub use Rattle.kernel_commit_facts.proofs.model_serial_turns_lemmas
