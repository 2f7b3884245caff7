mod CommitAnswering
pub mod Opened
pub use Rattle.store_facts.proofs.store_commit_lemmas
pub use Rattle.store_facts.proofs as store_facts_lemmas
