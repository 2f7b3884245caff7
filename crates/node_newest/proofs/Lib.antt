mod Answering
mod Words
mod Commits
mod Told
mod Whole
mod Lent
mod Behind
pub use Rattle.node_lending.proofs.kernel_run_facts_lemmas
