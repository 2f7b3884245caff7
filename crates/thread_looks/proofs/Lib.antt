pub mod Adding
pub mod Made
pub mod After
pub mod Ends
pub mod Free
pub mod Others
pub mod Planned
pub use Rattle.thread_commits.proofs as thread_commits_lemmas
pub use Rattle.kernel_core_facts.proofs as kernel_core_facts_lemmas
