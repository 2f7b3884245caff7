pub mod Actors
pub mod Lining
pub mod Names
pub mod Parsing
pub mod Joined
pub use Rattle.line_entry_laws.proofs as line_entry_laws_lemmas
pub use Rattle.trace_steps.proofs.model_run_rules_lemmas
pub use Rattle.trace_steps.proofs.plain_runs_lemmas
pub use Rattle.trace_actor_laws.proofs as trace_actor_laws_lemmas
