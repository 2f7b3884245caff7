pub mod Lining
pub mod Alike
pub use Rattle.trace_facts.proofs.line_entry_laws_lemmas
pub use Rattle.model_clocks.proofs.model_kernel_lemmas
pub use Rattle.plain_states.proofs.model_sound_runs_lemmas
pub use Rattle.trace_facts.proofs.trace_actor_laws_lemmas
pub use Rattle.trace_facts.proofs as trace_facts_lemmas
