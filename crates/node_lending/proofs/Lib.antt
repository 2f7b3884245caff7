mod Lent
pub use Rattle.node_pages.proofs as node_pages_lemmas
pub use Rattle.kernel_run_facts.proofs as kernel_run_facts_lemmas
