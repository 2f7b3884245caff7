pub mod Running
pub mod Wanting
pub mod Marking
pub mod Stepping
pub mod Stabling
pub mod Bearing
pub mod Beginning
pub use Rattle.model_run_rules.proofs.model_run_laws_lemmas
pub use Rattle.model_run_rules.proofs as model_run_rules_lemmas
pub use Rattle.trace_step_facts.proofs.plain_facts_lemmas
pub use Rattle.trace_step_facts.proofs.plain_runs_lemmas
