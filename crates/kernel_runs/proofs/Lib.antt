pub use Rattle.kernel_run_facts.proofs as kernel_run_facts_lemmas
pub use Rattle.kernel_run_facts.proofs.model_serial_lemmas
pub use Rattle.kernel_run_facts.proofs.table_births_lemmas
