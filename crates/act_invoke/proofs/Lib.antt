pub mod Entered
pub use Rattle.act_alone.proofs.model_act_facts_lemmas
pub use Rattle.act_alone.proofs.model_acts_lemmas
pub use Rattle.act_alone.proofs.model_kernel_lemmas
pub use Rattle.act_alone.proofs.model_sound_steps_lemmas
