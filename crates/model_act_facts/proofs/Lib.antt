pub mod LocalLemmas
pub mod ReadLemmas
pub mod SoundLemmas
pub mod TableLemmas
pub mod WantLemmas
pub mod Itself
pub mod Allowed
pub mod Alone
pub mod Kept
pub use Rattle.model_sound_steps.proofs as model_sound_steps_lemmas
