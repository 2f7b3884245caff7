pub mod Changing
pub mod Knowing
pub mod Spots
pub use Rattle.model_sound_states.proofs.model_sound_runs_lemmas
pub use Rattle.model_sound_states.proofs.model_sound_steps_lemmas
pub use Rattle.plain_states.proofs as plain_states_lemmas
