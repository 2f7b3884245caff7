pub mod ActLemmas
pub mod CellLemmas
pub mod SoundLemmas
pub mod NameLemmas
pub mod BirthLemmas
pub mod EdgeLemmas
pub mod BornLemmas
pub mod PlainBirths
pub mod ScriptLemmas
pub mod EmptyLemmas
pub mod ReadLemmas
pub mod WantLemmas
pub mod MarkLemmas
pub mod CountLemmas
pub mod ReadyLemmas
pub use Rattle.model_act_facts.proofs as model_act_facts_lemmas
pub use Rattle.model_acts.proofs as model_acts_lemmas
pub use Rattle.model_kernel.proofs as model_kernel_lemmas
pub use Rattle.model_sound_runs.proofs as model_sound_runs_lemmas
pub use Rattle.model_sound_runs.proofs.model_sound_steps_lemmas
