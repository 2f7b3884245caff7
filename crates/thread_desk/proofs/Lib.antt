pub mod Hearing
pub use Rattle.kernel_core.proofs as kernel_core_lemmas
pub use Rattle.kernel_run_facts.proofs as kernel_run_facts_lemmas
