pub mod Meant
pub use Rattle.image_meaning.proofs.image_blocks_lemmas
pub use Rattle.image_meaning.proofs as image_meaning_lemmas
pub use Rattle.image_meaning.proofs.model_kernel_lemmas
pub use Rattle.model_sound_states.proofs.model_run_laws_lemmas
pub use Rattle.model_sound_states.proofs.model_sound_runs_lemmas
pub use Rattle.model_sound_states.proofs as model_sound_states_lemmas
