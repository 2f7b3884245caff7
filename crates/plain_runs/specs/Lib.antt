pub mod Standing
pub mod Looking
pub mod Plays
pub use Rattle.plain_steps.specs.model_kernel
pub use Rattle.plain_states.specs.model_sound_runs
pub use Rattle.plain_states.specs as plain_states
pub use Rattle.script_types.specs as script_types
