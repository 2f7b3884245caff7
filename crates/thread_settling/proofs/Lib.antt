pub mod Lent
pub mod Locking
pub mod Settled
pub mod States
pub mod Turns
pub use Rattle.thread_commits.proofs as thread_commits_lemmas
