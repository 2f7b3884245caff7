pub mod Cases
pub mod Making
pub mod Somehow
pub use Rattle.act_invoke.proofs as act_invoke_lemmas
pub use Rattle.act_invoke.proofs.model_act_facts_lemmas
pub use Rattle.act_invoke.proofs.model_acts_lemmas
pub use Rattle.act_invoke.proofs.model_sound_steps_lemmas
pub use Rattle.page_memory.proofs as page_memory_lemmas
