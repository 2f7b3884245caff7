pub mod ListLemmas
pub mod Plain
pub use Rattle.model_act_facts.proofs as model_act_facts_lemmas
pub use Rattle.model_acts.proofs as model_acts_lemmas
pub use Rattle.model_kernel.proofs as model_kernel_lemmas
pub use Rattle.model_act_facts.proofs.model_sound_steps_lemmas
