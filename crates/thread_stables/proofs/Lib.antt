pub mod Seats
pub mod Settled
pub use Rattle.thread_looks.proofs as thread_looks_lemmas
pub use Rattle.thread_settling.proofs as thread_settling_lemmas
pub use Rattle.kernel_core_facts.proofs as kernel_core_facts_lemmas
pub use Rattle.thread_settling.proofs.thread_commits_lemmas
