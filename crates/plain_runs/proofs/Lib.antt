pub mod KnownNames
pub mod Placing
pub mod Answering
pub mod Beginning
pub use Rattle.plain_steps.proofs.model_births_lemmas
pub use Rattle.plain_steps.proofs.model_kernel_lemmas
pub use Rattle.plain_states.proofs.model_sound_runs_lemmas
pub use Rattle.plain_steps.proofs.plain_facts_lemmas
