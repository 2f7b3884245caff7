pub mod Adding
pub mod Along
pub mod Lent
pub mod Over
pub mod Wished
pub use Rattle.kernel_commits.proofs as kernel_commits_lemmas
pub use Rattle.kernel_commit_facts.proofs as kernel_commit_facts_lemmas
