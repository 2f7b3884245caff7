pub use Rattle.model_sound_states.specs.model_sound_runs
pub use Rattle.plain_states.specs as plain_states
